-- `entry`: in each arm the element at that place. Past the row's end the caller does not ask. Assumes nothing.
use mathlib.Core.Path.{refl}
use native.Mathlib.Omega.{arith}
use lib.Dec.{lit<}
use Rattle.log_tables.proofs.Arms.{missed_le}
use Rattle.log_tables.proofs.rows.entry.Goals as goal

pub returns-in_default : goal.returns-in_default
returns-in_default c = let h = missed_le 26 _ c.in_default.in_default-own.rest in absurd (omega (arith, c.requires))

pub bounds-row-0 : goal.bounds-row-0
bounds-row-0 c = lit< tt

pub bounds-row-1 : goal.bounds-row-1
bounds-row-1 c = lit< tt

pub bounds-row-2 : goal.bounds-row-2
bounds-row-2 c = lit< tt

pub bounds-row-3 : goal.bounds-row-3
bounds-row-3 c = lit< tt

pub bounds-row-4 : goal.bounds-row-4
bounds-row-4 c = lit< tt

pub bounds-row-5 : goal.bounds-row-5
bounds-row-5 c = lit< tt

pub bounds-row-6 : goal.bounds-row-6
bounds-row-6 c = lit< tt

pub bounds-row-7 : goal.bounds-row-7
bounds-row-7 c = lit< tt

pub bounds-row-8 : goal.bounds-row-8
bounds-row-8 c = lit< tt

pub bounds-row-9 : goal.bounds-row-9
bounds-row-9 c = lit< tt

pub bounds-row-10 : goal.bounds-row-10
bounds-row-10 c = lit< tt

pub bounds-row-11 : goal.bounds-row-11
bounds-row-11 c = lit< tt

pub bounds-row-12 : goal.bounds-row-12
bounds-row-12 c = lit< tt

pub bounds-row-13 : goal.bounds-row-13
bounds-row-13 c = lit< tt

pub bounds-row-14 : goal.bounds-row-14
bounds-row-14 c = lit< tt

pub bounds-row-15 : goal.bounds-row-15
bounds-row-15 c = lit< tt

pub bounds-row-16 : goal.bounds-row-16
bounds-row-16 c = lit< tt

pub bounds-row-17 : goal.bounds-row-17
bounds-row-17 c = lit< tt

pub bounds-row-18 : goal.bounds-row-18
bounds-row-18 c = lit< tt

pub bounds-row-19 : goal.bounds-row-19
bounds-row-19 c = lit< tt

pub bounds-row-20 : goal.bounds-row-20
bounds-row-20 c = lit< tt

pub bounds-row-21 : goal.bounds-row-21
bounds-row-21 c = lit< tt

pub bounds-row-22 : goal.bounds-row-22
bounds-row-22 c = lit< tt

pub bounds-row-23 : goal.bounds-row-23
bounds-row-23 c = lit< tt

pub bounds-row-24 : goal.bounds-row-24
bounds-row-24 c = lit< tt

pub bounds-row-25 : goal.bounds-row-25
bounds-row-25 c = lit< tt

pub returns-in-0 : goal.returns-in-0
returns-in-0 c = rw c.in-0.is refl

pub returns-in-1 : goal.returns-in-1
returns-in-1 c = rw c.in-1.is refl

pub returns-in-2 : goal.returns-in-2
returns-in-2 c = rw c.in-2.is refl

pub returns-in-3 : goal.returns-in-3
returns-in-3 c = rw c.in-3.is refl

pub returns-in-4 : goal.returns-in-4
returns-in-4 c = rw c.in-4.is refl

pub returns-in-5 : goal.returns-in-5
returns-in-5 c = rw c.in-5.is refl

pub returns-in-6 : goal.returns-in-6
returns-in-6 c = rw c.in-6.is refl

pub returns-in-7 : goal.returns-in-7
returns-in-7 c = rw c.in-7.is refl

pub returns-in-8 : goal.returns-in-8
returns-in-8 c = rw c.in-8.is refl

pub returns-in-9 : goal.returns-in-9
returns-in-9 c = rw c.in-9.is refl

pub returns-in-10 : goal.returns-in-10
returns-in-10 c = rw c.in-10.is refl

pub returns-in-11 : goal.returns-in-11
returns-in-11 c = rw c.in-11.is refl

pub returns-in-12 : goal.returns-in-12
returns-in-12 c = rw c.in-12.is refl

pub returns-in-13 : goal.returns-in-13
returns-in-13 c = rw c.in-13.is refl

pub returns-in-14 : goal.returns-in-14
returns-in-14 c = rw c.in-14.is refl

pub returns-in-15 : goal.returns-in-15
returns-in-15 c = rw c.in-15.is refl

pub returns-in-16 : goal.returns-in-16
returns-in-16 c = rw c.in-16.is refl

pub returns-in-17 : goal.returns-in-17
returns-in-17 c = rw c.in-17.is refl

pub returns-in-18 : goal.returns-in-18
returns-in-18 c = rw c.in-18.is refl

pub returns-in-19 : goal.returns-in-19
returns-in-19 c = rw c.in-19.is refl

pub returns-in-20 : goal.returns-in-20
returns-in-20 c = rw c.in-20.is refl

pub returns-in-21 : goal.returns-in-21
returns-in-21 c = rw c.in-21.is refl

pub returns-in-22 : goal.returns-in-22
returns-in-22 c = rw c.in-22.is refl

pub returns-in-23 : goal.returns-in-23
returns-in-23 c = rw c.in-23.is refl

pub returns-in-24 : goal.returns-in-24
returns-in-24 c = rw c.in-24.is refl

pub returns-in-25 : goal.returns-in-25
returns-in-25 c = rw c.in-25.is refl

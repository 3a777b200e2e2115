-- The papers' number for each refusal (docs/DEFINITION.md, section 10): 1 to 19 without 8.
-- Assumes nothing.
use Rattle.std.specs.Prelude.{ℕ}
use Rattle.refusals.specs.declared.Refusal.{Refusal}
use Rattle.refusals.specs.declared.Refusal.TheVariants.{
  Length,
  Form,
  Day,
  Name,
  Chance,
  Times,
  Limit,
  Room,
  Absent,
  Line,
  Many,
  OldForm,
  Index,
  IndexRoom,
  Torn,
  Even,
  Share,
  Profile,
  Other,
}

abbrev pub number_of : Refusal → ℕ
number_of Length = 1
number_of Form = 2
number_of Day = 3
number_of Name = 4
number_of Chance = 5
number_of Times = 6
number_of Limit = 7
number_of Room = 9
number_of Absent = 10
number_of Line = 11
number_of Many = 12
number_of OldForm = 13
number_of Index = 14
number_of IndexRoom = 15
number_of Torn = 16
number_of Even = 17
number_of Share = 18
number_of Profile = 19
number_of (Other unlisted) = unlisted.number

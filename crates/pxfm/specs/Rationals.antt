-- The three rational functions behind the inverse error function, with their coefficients as bit patterns
-- (document 01, src/err/inverfc.rs). Terms are paired in the Rust's order, which is not Horner's.
use Rattle.std.specs.Prelude.{ℕ, not, T, List, [], ◌∷◌, from_bits, slice_index, slice_index_or}
use Rattle.std.specs.Float.{binary64}
use Rattle.std.specs.Float.Ieee.{nan_bits, neg}
use Rattle.pxfm.specs.declared.double_double.DoubleDouble.{DoubleDouble}
use Rattle.pxfm.specs.DoubleDouble.{nan_pair, one, bit_pair, from_bit_pair, quick_mult, full_add_f64, mul_add, mul_add_f64, div_of}

-- The pair with these bit patterns.
abbrev pub bits : ℕ → ℕ → DoubleDouble
bits lo hi = from_bit_pair (bit_pair lo hi)

-- In the code a list of coefficients is an array of rows, each of a pair's bit patterns, low part first.
-- The pair of a row; and that neither of its patterns is a NaN's, which the code asks before it makes doubles of them.
abbrev pub pair_of : List ℕ → DoubleDouble
pair_of row = bits (slice_index row 0) (slice_index row 1)

abbrev pub PlainRow : List ℕ → Type 0
PlainRow row = T (not (nan_bits binary64 (slice_index row 0))) × T (not (nan_bits binary64 (slice_index row 1)))

-- The pairs of ten rows; and that no row has a NaN's pattern.
abbrev pub pairs_of10 : List (List ℕ) → List DoubleDouble
pairs_of10 t =
    let row : ℕ → DoubleDouble = λ i. pair_of (slice_index_or t i []) in
    row 0 ∷ row 1 ∷ row 2 ∷ row 3 ∷ row 4 ∷ row 5 ∷ row 6 ∷ row 7 ∷ row 8 ∷ row 9 ∷ []

abbrev pub PlainRows10 : List (List ℕ) → Type 0
PlainRows10 t =
    let plain : ℕ → Type 0 = λ i. PlainRow (slice_index_or t i []) in
    plain 0 × plain 1 × plain 2 × plain 3 × plain 4 × plain 5 × plain 6 × plain 7 × plain 8 × plain 9

-- The pair at a place of a list of coefficients.
abbrev pub at : List DoubleDouble → ℕ → DoubleDouble
at t i = slice_index_or t i nan_pair

-- Ten coefficients at z, with the powers 2, 4 and 8 of z.
unfoldable pub paired10 : List DoubleDouble → DoubleDouble → DoubleDouble → DoubleDouble → DoubleDouble → DoubleDouble
paired10 t z z2 z4 z8 =
    let p0 = mul_add z (at t 1) (at t 0) in
    let p1 = mul_add z (at t 3) (at t 2) in
    let p2 = mul_add z (at t 5) (at t 4) in
    let p3 = mul_add z (at t 7) (at t 6) in
    let p4 = mul_add z (at t 9) (at t 8) in
    let q0 = mul_add z2 p1 p0 in
    let q1 = mul_add z2 p3 p2 in
    let r0 = mul_add z4 q1 q0 in
    mul_add z8 p4 r0

-- Eleven coefficients at z, of which q0 stands for the first two.
unfoldable pub paired11 :
    List DoubleDouble → DoubleDouble → DoubleDouble → DoubleDouble → DoubleDouble → DoubleDouble → DoubleDouble
paired11 t q0 z z2 z4 z8 =
    let q1 = mul_add (at t 3) z (at t 2) in
    let q2 = mul_add (at t 5) z (at t 4) in
    let q3 = mul_add (at t 7) z (at t 6) in
    let q4 = mul_add (at t 9) z (at t 8) in
    let r0 = mul_add z2 q1 q0 in
    let r1 = mul_add z2 q3 q2 in
    let s0 = mul_add z4 r1 r0 in
    let s1 = mul_add z2 (at t 10) q4 in
    mul_add z8 s1 s0

-- Fourteen coefficients at z.
unfoldable pub paired14 : List DoubleDouble → DoubleDouble → DoubleDouble → DoubleDouble → DoubleDouble → DoubleDouble
paired14 t z z2 z4 z8 =
    let g0 = mul_add z (at t 1) (at t 0) in
    let g1 = mul_add z (at t 3) (at t 2) in
    let g2 = mul_add z (at t 5) (at t 4) in
    let g3 = mul_add z (at t 7) (at t 6) in
    let g4 = mul_add z (at t 9) (at t 8) in
    let g5 = mul_add z (at t 11) (at t 10) in
    let g6 = mul_add z (at t 13) (at t 12) in
    let h0 = mul_add z2 g1 g0 in
    let h1 = mul_add z2 g3 g2 in
    let h2 = mul_add z2 g5 g4 in
    let q0 = mul_add z4 h1 h0 in
    let q1 = mul_add z4 g6 h2 in
    mul_add z8 q1 q0

-- The numerator from 0.06 to 0.75, about x² = 0.5625.
unfoldable pub p0p06_to0p75 : List DoubleDouble
p0p06_to0p75 =
    bits 0xbc3e06eda42202a0 0x3f93c2fc5d00e0c8 ∷
    bits 0xbc6eb374406b33b4 0xbfc76fcfd022e3ff ∷
    bits 0xbc857822d7ffd282 0x3fe6f8443546010a ∷
    bits 0x3c68269c66dfb28a 0xbff80996754ceb79 ∷
    bits 0x3c543dce8990a9f9 0x3ffcf778d5ef0504 ∷
    bits 0xbc72fc55f73765f6 0xbff433be821423d0 ∷
    bits 0xbc66d05fb37c8592 0x3fdf15f19e9d8da4 ∷
    bits 0x3c56dfb85e83a2c5 0xbfb770b6827e0829 ∷
    bits 0x3bff1472ecdfa403 0x3f7a98a2980282bb ∷
    bits 0x3baffb33d69d6276 0xbf142a246fd2c07c ∷
    []

-- The denominator from 0.06 to 0.75, about x² = 0.5625.
unfoldable pub q0p06_to0p75 : List DoubleDouble
q0p06_to0p75 =
    bits 0xbc36337f24e57cb9 0x3f92388d5d757e3a ∷
    bits 0xbc63dfae43d60e0b 0xbfc6ca7da581358c ∷
    bits 0xbc77656389bd0e62 0x3fe7c82ce417b4e0 ∷
    bits 0xbc93679667bef2f0 0xbffad58651fd1a51 ∷
    bits 0x3ca2c6cb9eb17fb4 0x4001bdb67e93a242 ∷
    bits 0xbc9b58961ba253bc 0xbffbdaeff6fbb81c ∷
    bits 0x3c7861f549c6aa61 0x3fe91b12cf47da3a ∷
    bits 0xbc696dfd665b2f5e 0xbfc7c5d0ffb7f1da ∷
    bits 0x3c1552b0ec0ba7b3 0x3f939ada247f7609 ∷
    bits 0xbbcaa226fb7b30a8 0xbf41be65038ccfe6 ∷
    []

-- The numerator of the shorter asymptotic rational.
unfoldable pub p_asympt_small : List DoubleDouble
p_asympt_small =
    bits 0x3c936555853a8b2c 0x3ff0001df06a2515 ∷
    bits 0x3cea488e802db3c3 0x404406ba373221da ∷
    bits 0xbce27d42419754e3 0x407b0442e38a9597 ∷
    bits 0xbd224a407624cbdf 0x409c9277e31ef446 ∷
    bits 0x3d4f16ce65d6fea0 0x40aec3ec005b1d8a ∷
    bits 0x3d105bc37bc61b58 0x40b46be8f860f4d9 ∷
    bits 0x3d5ca133dcdecaa0 0x40b3826e6a32dad7 ∷
    bits 0x3d1d52013ba8aa38 0x40aae93a603cf3ea ∷
    bits 0xbd07a75306df0fc3 0x4098ab8357dc2e51 ∷
    bits 0x3d1bb6770bb7a27e 0x407ebead00879010 ∷
    bits 0xbbfcbff4a9737936 0x3f8936117ccbff83 ∷
    []

-- The denominator of the shorter asymptotic rational.
unfoldable pub q_asympt_small : List DoubleDouble
q_asympt_small =
    bits 0x0000000000000000 0x3ff0000000000000 ∷
    bits 0xbc75b1109d4a3262 0x40440782efaab17f ∷
    bits 0x3d1f7775b207d84f 0x407b2da74b0d39f2 ∷
    bits 0xbd3291fdbab49501 0x409dac8d9e7c90b2 ∷
    bits 0xbd58d8fdd27707a9 0x40b178dfeffa3192 ∷
    bits 0xbd57fc74ad705ce0 0x40bad19b686f219f ∷
    bits 0x3d4075510031f2cd 0x40be70a598208cea ∷
    bits 0xbd5442e109152efb 0x40b9683ef36ae330 ∷
    bits 0x3d5398192933962e 0x40b04b7c4c3ca8ee ∷
    bits 0x3d2d04d03598e303 0x409bd0080799fbf1 ∷
    bits 0x3d2a988eb552ef44 0x40815a46f12bafe3 ∷
    []

-- The numerator of the longer asymptotic rational.
unfoldable pub p_asympt_long : List DoubleDouble
p_asympt_long =
    bits 0x3c97612f9b24a614 0x3ff0000ba84cc7a5 ∷
    bits 0xbcee8fe2da463412 0x40515246546f5d88 ∷
    bits 0x3d2fa4a2b891b526 0x40956b6837159b11 ∷
    bits 0x3d5d673ffad4f817 0x40c5a1aa3be58652 ∷
    bits 0x3d8867a1e5506f88 0x40e65ebb1e1e7c75 ∷
    bits 0xbd9bbc0764ed8f5b 0x40fd2064a652e5c2 ∷
    bits 0xbda78e569c0d237f 0x410a385c627c461c ∷
    bits 0xbdab3123ebc465d7 0x4110f05ca2b65fe5 ∷
    bits 0x3d960def35955192 0x4110bb079af2fe08 ∷
    bits 0xbd97904816054836 0x410911c24610c11c ∷
    bits 0xbd937745e9192593 0x40fc603244adca35 ∷
    bits 0xbd65fbc476d63050 0x40e6399103188c21 ∷
    bits 0xbd61016ef381cce6 0x40c6482b44995b89 ∷
    bits 0x3c326105c49e5a1a 0xbfab44bd8b4e3138 ∷
    []

-- The denominator of the longer asymptotic rational.
unfoldable pub q_asympt_long : List DoubleDouble
q_asympt_long =
    bits 0x0000000000000000 0x3ff0000000000000 ∷
    bits 0xbcfc7b886ee61417 0x405152838f711f3c ∷
    bits 0xbd33f933c14e831a 0x409576cb78cab36e ∷
    bits 0x3d33fb09e2c4898a 0x40c5e8a2c7602ced ∷
    bits 0x3d7be430c664bf7e 0x40e766fdc8c7638c ∷
    bits 0x3dac662e74cdfc0e 0x4100276b5f47b5f1 ∷
    bits 0x3da67d06e82a8495 0x410f843887f8a24a ∷
    bits 0x3dbbf2e22fc2550a 0x4116d04271703e08 ∷
    bits 0xbdb2fb3aed100853 0x4119aff4ed32b74b ∷
    bits 0x3dba75e7b7171c3c 0x4116b5eb8bf386bd ∷
    bits 0x3dab2d8b8c1937eb 0x410f71c38e84cb34 ∷
    bits 0xbda4e2e8a50b7370 0x4100ca04b0f36b94 ∷
    bits 0xbd86ed6df34fdaf9 0x40e9151ded4cf4b7 ∷
    bits 0x3d6938ea702c0328 0x40c923ee1ab270c4 ∷
    []

-- x² - 0.5625, the variable of the rational from 0.06 to 0.75.
unfoldable pub centred_of : DoubleDouble → DoubleDouble
centred_of x = full_add_f64 (quick_mult x x) (neg (from_bits binary64 0x3fe2_0000_0000_0000))

-- The slower rational from 0.06 to 0.75, taken where the quicker one's rounding is in doubt.
unfoldable pub inverf0p06_to0p75 : DoubleDouble → DoubleDouble
inverf0p06_to0p75 x =
    let vz = centred_of x in
    let vx2 = quick_mult vz vz in
    let vx4 = quick_mult vx2 vx2 in
    let vx8 = quick_mult vx4 vx4 in
    let num = paired10 p0p06_to0p75 vz vx2 vx4 vx8 in
    let den = paired10 q0p06_to0p75 vz vx2 vx4 vx8 in
    quick_mult (div_of num den) x

-- The shorter asymptotic rational, times the root of zeta.
unfoldable pub inverf_asympt_small : DoubleDouble → DoubleDouble → DoubleDouble
inverf_asympt_small z zeta_sqrt =
    let z2 = quick_mult z z in
    let z4 = quick_mult z2 z2 in
    let z8 = quick_mult z4 z4 in
    let num = paired11 p_asympt_small (mul_add (at p_asympt_small 1) z (at p_asympt_small 0)) z z2 z4 z8 in
    let den = paired11 q_asympt_small (mul_add_f64 (at q_asympt_small 1) z one) z z2 z4 z8 in
    quick_mult (div_of num den) zeta_sqrt

-- The longer asymptotic rational, times the root of zeta.
unfoldable pub inverf_asympt_long : DoubleDouble → DoubleDouble → DoubleDouble
inverf_asympt_long z zeta_sqrt =
    let z2 = quick_mult z z in
    let z4 = quick_mult z2 z2 in
    let z8 = quick_mult z4 z4 in
    let num = paired14 p_asympt_long z z2 z4 z8 in
    let den = paired14 q_asympt_long z z2 z4 z8 in
    quick_mult (div_of num den) zeta_sqrt

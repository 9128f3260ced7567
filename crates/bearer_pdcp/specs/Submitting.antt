-- An SDU is submitted (TS 36.323 5.1.1, 5.4).
use Rattle.std.specs.Prelude.{◌≡◌, Option, Some}
use Rattle.l2_bits.specs.declared.SubmitRefusal.{SubmitRefusal}
use Rattle.l2_bits.specs.declared.SubmitRefusal.TheVariants.{Empty, TooLong, Full, CountEnd}
use Rattle.l2_bits.specs.declared.SubmitRefusal.TheVariants.{NoMemory}

-- an answer is this refusal, or memory ran out
abbrev pub Answers : SubmitRefusal → Option SubmitRefusal → Type 0
Answers Empty r = r ≡ Some Empty
Answers TooLong r = r ≡ Some TooLong
Answers Full r = r ≡ Some Full
Answers CountEnd r = r ≡ Some CountEnd
Answers NoMemory r = Unit {0}

-- what a refusal leaves; where memory ran out nothing is said
abbrev pub StaysOrDies : SubmitRefusal → Type 0 → Type 0
StaysOrDies Empty stays = stays
StaysOrDies TooLong stays = stays
StaysOrDies Full stays = stays
StaysOrDies CountEnd stays = stays
StaysOrDies NoMemory stays = Unit {0}

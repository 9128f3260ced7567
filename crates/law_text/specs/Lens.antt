-- Lengths, and the entries of a STATUS, read back from their texts (docs/formats/JOURNAL.md).
use Rattle.std.specs.Prelude.{ℕ, ◌<◌, ◌^◌, ◌==◌, Bool, true, false, if◌then◌else◌, List, [], ◌∷◌}
use Rattle.std.specs.Prelude.{◌++◌, map, codes, Option, Some, None}
use Rattle.std.specs.Str.{bytes_eq}
use Rattle.rlc_pdu.specs.declared.pdu.Part.{Part}
use Rattle.rlc_pdu.specs.declared.pdu.Nack.{Nack}
use Rattle.law_text.specs.Back.{number_back}

-- a text cut at each place of an octet, behind a word that was begun
unfoldable pub cut_by : ℕ → List ℕ → List ℕ → List (List ℕ)
cut_by at word [] = word ∷ []
cut_by at word (x ∷ xs) = if x == at then word ∷ cut_by at [] xs else cut_by at (word ++ x ∷ []) xs

-- an octet stands nowhere
abbrev pub is_free : ℕ → List ℕ → Bool
is_free at [] = true
is_free at (x ∷ xs) = if x == at then false else is_free at xs

-- numbers with a comma between two
unfoldable pub lens_back : List ℕ → List ℕ
lens_back word = map number_back (cut_by 44 [] word)

abbrev pub AreNumbers : List ℕ → Type 0
AreNumbers [] = Unit {0}
AreNumbers (n ∷ ns) = (n < 2 ^ 64) × AreNumbers ns

-- at least one number
abbrev pub AreLens : List ℕ → Type 0
AreLens [] = ⊥
AreLens (n ∷ ns) = (n < 2 ^ 64) × AreNumbers ns

abbrev pub framing_back : List ℕ → ℕ
framing_back word = if bytes_eq word (codes "00") then 0 else if bytes_eq word (codes "01") then 1
    else if bytes_eq word (codes "10") then 2 else 3

-- ---- the entries of a STATUS: SN or SN:START-END, with a comma between two, or - for none

abbrev pub part_of : List (List ℕ) → Part
part_of (start ∷ end ∷ []) = record { start = number_back start; end = number_back end }
part_of words = record { start = 0; end = 0 }

abbrev pub nack_of : List (List ℕ) → Nack
nack_of (sn ∷ range ∷ []) =
    record { sn = number_back sn; part = Some (part_of (cut_by 45 [] range)) }
nack_of (sn ∷ words) = record { sn = number_back sn; part = None }
nack_of [] = record { sn = 0; part = None }

unfoldable pub nack_back : List ℕ → Nack
nack_back word = nack_of (cut_by 58 [] word)

unfoldable pub nacks_back : List ℕ → List Nack
nacks_back word = if bytes_eq word (codes "-") then [] else map nack_back (cut_by 44 [] word)

abbrev pub IsGoodPart : Option Part → Type 0
IsGoodPart None = Unit {0}
IsGoodPart (Some p) = (p.start < 2 ^ 64) × (p.end < 2 ^ 64)

-- the numbers of an entry that integers hold
pub record IsGoodNack (n : Nack) : Type 0 where
  pub number : n.sn < 2 ^ 64
  pub part : IsGoodPart n.part

abbrev pub AreGoodNacks : List Nack → Type 0
AreGoodNacks [] = Unit {0}
AreGoodNacks (n ∷ ns) = IsGoodNack n × AreGoodNacks ns

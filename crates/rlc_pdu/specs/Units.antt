-- Extension units of data PDUs: E(1) LI(11), two of them in three octets (TS 36.322 6.2.1.3 to
-- 6.2.1.5, 6.2.2.5).
use Rattle.std.specs.Prelude.{ℕ, ◌+◌, ◌-◌, ◌*◌, ◌/◌, ◌%◌, ◌==◌, nat_le, Bool, true, false, List, []}
use Rattle.std.specs.Prelude.{◌∷◌, ◌++◌, take, drop, Option, Some, None, if◌then◌else◌, is_none}
use Rattle.std.specs.Prelude.{length, All, ◌<◌, ◌^◌}

-- ---- written

-- E: a unit follows
abbrev pub follows : List ℕ → ℕ
follows [] = 0
follows (n ∷ lis) = 1

-- two units: E, which is 1, and LI of both, E of the second being as given
abbrev pub pair_octets : ℕ → ℕ → ℕ → List ℕ
pair_octets x y more = (128 + x / 16) ∷ (x % 16 * 16 + more * 8 + y / 256) ∷ (y % 256) ∷ []

-- the units of these LIs; behind an odd number of them stand 4 bits of padding
abbrev pub units_octets : ℕ → List ℕ → List ℕ
units_octets padding [] = []
units_octets padding (x ∷ []) = (x / 16) ∷ (x % 16 * 16 + padding) ∷ []
units_octets padding (x ∷ y ∷ lis) = pair_octets x y (follows lis) ++ units_octets padding lis

-- an LI has 11 bits
abbrev pub AreLis : List ℕ → Type 0
AreLis lis = All (λ n. n < 2 ^ 11) lis

-- ---- read

-- the LI of a unit by its two octets; an odd unit begins in the middle of the first
abbrev pub li_of : Bool → ℕ → ℕ → ℕ
li_of odd a b = if odd then a % 8 * 256 + b else a % 128 * 16 + b / 16

-- the E of a unit by its first octet
abbrev pub more_of : Bool → ℕ → Bool
more_of odd a = if odd then a / 8 % 2 == 1 else a / 128 % 2 == 1

-- the LIs of units, and the octets behind them
pub record Units : Type 0 where
  pub lis : List ℕ
  pub rest : List ℕ

abbrev pub with_li : ℕ → Option Units → Option Units
with_li one None = None
with_li one (Some u) = Some (record u { lis = one ∷ u.lis })

-- units, if there are more; none where they are cut. Behind an even unit the next one begins in the
-- same octet.
unfoldable pub units : Bool → Bool → List ℕ → Option Units
units false false rest = Some (record { lis = []; rest = rest })
units true false [] = None
units true false (a ∷ rest) = Some (record { lis = []; rest = rest })
units odd true [] = None
units odd true (a ∷ []) = None
units false true (a ∷ b ∷ rest) =
    with_li (li_of false a b) (units true (more_of false a) (b ∷ rest))
units true true (a ∷ b ∷ rest) = with_li (li_of true a b) (units false (more_of true a) rest)

-- which LI is the first of 0, counted from k
unfoldable pub zero_from : ℕ → List ℕ → Option ℕ
zero_from k [] = None
zero_from k (n ∷ lis) = if n == 0 then Some k else zero_from (k + 1) lis

-- which LI is the first that leaves nothing of a field of so many octets to the element behind it
unfoldable pub past_from : ℕ → List ℕ → ℕ → Option ℕ
past_from k [] left = None
past_from k (n ∷ lis) left = if nat_le left n then Some k else past_from (k + 1) lis (left - n)

-- the elements of a field
unfoldable pub cut : List ℕ → List ℕ → List (List ℕ)
cut [] field = field ∷ []
cut (n ∷ lis) field = take n field ∷ cut lis (drop n field)

-- ---- a reader's steps

-- a unit: its LI, its E, and the octets from the next unit on
pub record Unit : Type 0 where
  pub len : ℕ
  pub more : Bool
  pub rest : List ℕ

-- the unit that begins in the first octet
unfoldable pub unit_at : Bool → List ℕ → Option Unit
unit_at odd [] = None
unit_at odd (a ∷ []) = None
unit_at false (a ∷ b ∷ rest) =
    Some (record { len = li_of false a b; more = more_of false a; rest = b ∷ rest })
unit_at true (a ∷ b ∷ rest) =
    Some (record { len = li_of true a b; more = more_of true a; rest = rest })

-- the octets behind the last unit
unfoldable pub field_at : Bool → List ℕ → Option (List ℕ)
field_at false rest = Some rest
field_at true [] = None
field_at true (a ∷ rest) = Some rest

-- the first of two LIs of 0
abbrev pub or_zero : Option ℕ → Option ℕ → Option ℕ
or_zero (Some k) other = Some k
or_zero None other = other

-- the first LI of 0 and the field, of units that are whole
abbrev pub scanned : Option ℕ → ℕ → Option Units → Option (Option ℕ × List ℕ)
scanned found k None = None
scanned found k (Some u) = Some (or_zero found (zero_from k u.lis), u.rest)

-- the first LI that leaves nothing, of units that are whole
abbrev pub past_in : ℕ → Option Units → ℕ → Option ℕ
past_in k None left = None
past_in k (Some u) left = past_from k u.lis left

-- the elements of a field, by the units in front of it
abbrev pub cut_some : Option Units → List ℕ → List (List ℕ)
cut_some None field = []
cut_some (Some u) field = cut u.lis field

-- the elements that are left: none once the field is empty
abbrev pub elements_in : Bool → Bool → List ℕ → List ℕ → List (List ℕ)
elements_in odd more us [] = []
elements_in odd more us (f ∷ fs) = cut_some (units odd more us) (f ∷ fs)

abbrev pub leaves_some : Option Units → ℕ → Bool
leaves_some None n = false
leaves_some (Some u) n = is_none (past_from 0 u.lis n)

-- the units are whole, and each LI leaves something of the field
abbrev pub is_sound : Bool → Bool → List ℕ → List ℕ → Bool
is_sound odd more us [] = true
is_sound odd more us (f ∷ fs) = leaves_some (units odd more us) (length (f ∷ fs))

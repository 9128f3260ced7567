-- A PDU of a data bearer is refused by the first case that is true.
use Rattle.std.proofs.Common.{◌≡◌, inl, inr, ℕ, suc, ◌+◌, ◌*◌, ◌%◌, ◌<◌, ◌≤◌, Bool, true, false, cond, List, [], ◌∷◌}
use Rattle.std.proofs.Common.{length, refl, arith, Option, None, Some, Result, Ok}
use Rattle.std.specs.Prelude.{◌==◌, ◌&&◌, not, nat_lt, MatchResult}
use Rattle.std.proofs.lemmas.Bool.{le-ltb, ne_eqb}
use Rattle.pdcp_pdu.specs.declared.pdu.PdcpRefusal.{PdcpRefusal}
use Rattle.pdcp_pdu.specs.declared.pdu.PdcpWhy.TheVariants.{Short, ReservedType, EmptyData}
use Rattle.pdcp_pdu.specs.Pdus.{UserPdu, Report, IsUserBits}
use Rattle.pdcp_pdu.specs.Refusals.{is_data, has_report_type, where_true, user_refusal}
use Rattle.pdcp_pdu.specs.Reading.{refused, user_at, sdu_at, short_user, middle_user, long_user, long_report}

-- what was read agrees with the first case that is true
abbrev pub Agrees : Result UserPdu PdcpRefusal → Option PdcpRefusal → Type 0
Agrees read first = MatchResult read (λ pdu. first ≡ None) (λ e. first ≡ Some e)

-- there is room for a header, and for some data behind it
longer : (n k : ℕ) → k ≤ n → nat_lt n k ≡ false
longer n k le = le-ltb n k le

differs : (n k : ℕ) → k < n → (n == k) ≡ false
differs n k lt = ne_eqb n k (λ e. omega (arith, e, lt))

short_cases : (a : ℕ) (rest : List ℕ) (d : Bool) → Agrees (cond d (sdu_at 1 (a % 128) rest) (refused 0 ReservedType))
    (where_true (nat_lt (suc (length rest)) 1) (suc (length rest)) Short
    (where_true (not d && true) 0 ReservedType
    (where_true (d && (suc (length rest) == 1)) 1 EmptyData None)))
unfolding sdu_at
short_cases a [] true = refl
short_cases a (x ∷ xs) true =
    rw (longer (suc (suc (length xs))) 1 (omega arith), differs (suc (suc (length xs))) 1 (omega arith)) refl
short_cases a rest false = rw (longer (suc (length rest)) 1 (omega arith)) refl

short_agrees : (octets : List ℕ) → Agrees (short_user octets) (user_refusal 7 octets)
unfolding short_user
short_agrees [] = refl
short_agrees (a ∷ rest) = short_cases a rest (is_data a)

middle_cases : (n : ℕ) (rest : List ℕ) (d t : Bool)
    → Agrees (cond d (sdu_at 2 n rest) (cond t (Ok (Report n rest)) (refused 0 ReservedType)))
    (where_true (nat_lt (suc (suc (length rest))) 2) (suc (suc (length rest))) Short
    (where_true (not d && not t) 0 ReservedType
    (where_true (d && (suc (suc (length rest)) == 2)) 2 EmptyData None)))
unfolding sdu_at
middle_cases n [] true t = refl
middle_cases n (x ∷ xs) true t =
    rw (longer (suc (suc (suc (length xs)))) 2 (omega arith), differs (suc (suc (suc (length xs)))) 2 (omega arith))
    refl
middle_cases n rest false true = rw (longer (suc (suc (length rest))) 2 (omega arith)) refl
middle_cases n rest false false = rw (longer (suc (suc (length rest))) 2 (omega arith)) refl

middle_agrees : (octets : List ℕ) → Agrees (middle_user octets) (user_refusal 12 octets)
unfolding middle_user
middle_agrees [] = refl
middle_agrees (a ∷ []) = refl
middle_agrees (a ∷ b ∷ rest) = middle_cases (a % 16 * 256 + b) rest (is_data a) (has_report_type a)

-- the first case that is true of a PDU with numbers of 15 bits
abbrev long_refusal : ℕ → Bool → Bool → Option PdcpRefusal
long_refusal total d t =
    let size = cond (not d && t) 3 2 in
    where_true (nat_lt total size) total Short
    (where_true (not d && not t) 0 ReservedType
    (where_true (d && (total == size)) size EmptyData None))

long_short : (d t : Bool) → long_refusal 1 d t ≡ Some (record { at = 1; why = Short })
long_short true t = refl
long_short false true = refl
long_short false false = refl

long_cases : (n b : ℕ) (rest : List ℕ) (d t : Bool)
    → Agrees (cond d (sdu_at 2 n rest) (cond t (long_report b rest) (refused 0 ReservedType)))
    (long_refusal (suc (suc (length rest))) d t)
unfolding sdu_at long_report
long_cases n b [] true t = refl
long_cases n b (x ∷ xs) true t =
    rw (longer (suc (suc (suc (length xs)))) 2 (omega arith), differs (suc (suc (suc (length xs)))) 2 (omega arith))
    refl
long_cases n b [] false true = refl
long_cases n b (c ∷ rest) false true = rw (longer (suc (suc (suc (length rest)))) 3 (omega arith)) refl
long_cases n b rest false false = rw (longer (suc (suc (length rest))) 2 (omega arith)) refl

long_agrees : (octets : List ℕ) → Agrees (long_user octets) (user_refusal 15 octets)
unfolding long_user
long_agrees [] = refl
long_agrees (a ∷ []) = long_short (is_data a) (has_report_type a)
long_agrees (a ∷ b ∷ rest) = long_cases (a % 128 * 256 + b) b rest (is_data a) (has_report_type a)

pub user_agrees : (bits : ℕ) (octets : List ℕ) → IsUserBits bits
    → Agrees (user_at bits octets) (user_refusal bits octets)
user_agrees bits octets (inl e) = rw e (short_agrees octets)
user_agrees bits octets (inr (inl e)) = rw e (middle_agrees octets)
user_agrees bits octets (inr (inr e)) = rw e (long_agrees octets)

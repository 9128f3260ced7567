-- The STATUS that is written is true of the account.
use Rattle.std.proofs.Common.{◌≡◌, ◌<◌, ◌≤◌, inl, inr, ℕ, suc, ◌+◌, ◌-◌, Bool, true, false, ◌||◌, ◌==◌}
use Rattle.std.proofs.Common.{List, [], ◌∷◌, ◌++◌, map, take, drop, length, Option, Some, None, refl, ap, sym, subst}
use Rattle.std.proofs.Common.{◌∙◌, arith, nat_le, if◌then◌else◌, slice_get}
use Rattle.std.proofs.lemmas.Bool.{cases_lt, lt-ltb, le-ltb, ne_eqb, eq-eqb, and_from, or_left}
use Rattle.std.proofs.lemmas.List.{map-append, append-nil, drop_at}
use Rattle.std.proofs.Math.Bool.{or-true}
use Rattle.rlc_pdu.specs.declared.pdu.Part.{Part}
use Rattle.rlc_am_rx_window.specs.declared.missing.Missing.{Missing}
use Rattle.rlc_am_rx_window.specs.Held.{Held, is_complete, has_end}
use Rattle.rlc_am_rx_window.specs.Window.{slot_at, complete_first, first_incomplete}
use Rattle.rlc_am_rx_window.specs.Missing.{runs, whole, of_part, missing_of, missing_below, entry_bits}
use Rattle.rlc_am_rx.specs.Status.{listed, fitting, room_in, chosen, number_of, last_number, next_number}
use Rattle.rlc_am_rx.specs.Status.{ack_behind, ack, nack_of}
use Rattle.journal_account.specs.declared.entry.StatusEntry.{StatusEntry}
use Rattle.journal_account.specs.FlowArrivals.{FieldArrivals, field_at, open_number}
use Rattle.journal_account.specs.FlowStatus.{said_of_field, said_of_fields, all_said, begin_so, behind_named}
use Rattle.journal_account.proofs.ByPlace.{whole_at, open_least}
use Rattle.journal_account.proofs.Named.{Names, names_so, none_said, begins_with, named_within}
use Rattle.law_rlc.specs.AmReceiver.Status.{has_entry}
use Rattle.law_rlc.proofs.AmReceiver.TrueStatus.{AllAre, has_append, entry_in}
use Rattle.law_account.specs.TrueStatus.{nack_with}
use Rattle.law_account.specs.LateStatus.{entry_of}
use Rattle.law_account.specs.Reporting.{reported, ReportsAreTrue}
use Rattle.law_account.proofs.ReceivingNumbers.{Pairs, pairs_whole, open_same, none_first}
use Rattle.law_account.proofs.ReportingRuns.{said_same}

-- ---- what is said of the numbers, one behind the other

rest_pairs : (h : Held) (hs : List Held) (f : FieldArrivals) (fs : List FieldArrivals) → Pairs (h ∷ hs) (f ∷ fs)
    → Pairs hs fs
rest_pairs h hs f fs pairs k = pairs (suc k)

all_same : (hs : List Held) (fs : List FieldArrivals) (n bound : ℕ) → Pairs hs fs → length hs ≤ length fs
    → bound ≤ n + length hs → map entry_of (missing_below hs n bound) ≡ said_of_fields n (take (bound - n) fs)
all_same [] fs n bound pairs few low =
    let none : bound - n ≡ 0 = omega (arith, low) in
    sym (ap (λ (k : ℕ). said_of_fields n (take k fs)) none)
all_same (h ∷ hs) [] n bound pairs few low = absurd (omega (arith, few))
all_same (h ∷ hs) (f ∷ fs) n bound pairs few low = elim (cases_lt n bound) [
  | inl below ↦
      let count : bound - n ≡ suc (bound - (n + 1)) = omega (arith, below) in
      ap (λ (b : Bool). map entry_of (if b then missing_of n h ++ missing_below hs (n + 1) bound else []))
      (lt-ltb n bound below)
      ∙ (map-append entry_of (missing_of n h) (missing_below hs (n + 1) bound)
      ∙ (ap (λ (xs : List StatusEntry). xs ++ map entry_of (missing_below hs (n + 1) bound))
      (said_same n h f (pairs 0))
      ∙ (ap (λ (xs : List StatusEntry). said_of_field n f ++ xs)
      (all_same hs fs (n + 1) bound (rest_pairs h hs f fs pairs) (omega (arith, few)) (omega (arith, low)))
      ∙ sym (ap (λ (k : ℕ). said_of_fields n (take k (f ∷ fs))) count))))
  | inr past ↦
      let none : bound - n ≡ 0 = omega (arith, past) in
      ap (λ (b : Bool). map entry_of (if b then missing_of n h ++ missing_below hs (n + 1) bound else []))
      (le-ltb n bound past)
      ∙ sym (ap (λ (k : ℕ). said_of_fields n (take k (f ∷ fs))) none)
]

-- ---- entries of one number

parts_are : (n : ℕ) (ps : List Part) → AllAre n (map (of_part n) ps)
parts_are n [] = tt
parts_are n (p ∷ ps) = (refl, parts_are n ps)

said_are : (n : ℕ) (h : Held) → AllAre n (missing_of n h)
said_are n h = go (is_complete h) (length h.cells == 0)
  where
    go : (a b : Bool)
        → AllAre n (if a then [] else if b then whole n ∷ [] else map (of_part n) (runs h.cells 0 None (has_end h)))
    go true b = tt
    go false true = (refl, tt)
    go false false = parts_are n (runs h.cells 0 None (has_end h))

-- of a number that is complete there is none, and of another there is one
none_complete : (n : ℕ) (h : Held) → is_complete h ≡ true → missing_of n h ≡ []
none_complete n h full =
    ap (λ (b : Bool). if b then [] else if length h.cells == 0 then whole n ∷ []
    else map (of_part n) (runs h.cells 0 None (has_end h))) full

abbrev Tells : List Held → ℕ → Type 0
Tells hs n = (k : ℕ) → missing_of (n + k) (slot_at hs k) ≡ [] → is_complete (slot_at hs k) ≡ true

tells_all : (hs : List Held) (fs : List FieldArrivals) (n : ℕ) → Pairs hs fs → Tells hs n
tells_all hs fs n pairs k none =
    pairs_whole hs fs pairs k
    ∙ none_said (n + k) (field_at fs k) ((pairs k).ascends)
    (sym (said_same (n + k) (slot_at hs k) (field_at fs k) (pairs k)) ∙ ap (map entry_of) none)

rest_tells : (h : Held) (hs : List Held) (n : ℕ) → Tells (h ∷ hs) n → Tells hs (n + 1)
rest_tells h hs n t k none = t (suc k) (ap (λ (m : ℕ). missing_of m (slot_at hs k)) (omega arith) ∙ none)

-- ---- the first number that is open, with no number named before

below_is : (h : Held) (hs : List Held) (n bound : ℕ) → n < bound
    → missing_below (h ∷ hs) n bound ≡ missing_of n h ++ missing_below hs (n + 1) bound
below_is h hs n bound lt =
    ap (λ (b : Bool). if b then missing_of n h ++ missing_below hs (n + 1) bound else []) (lt-ltb n bound lt)

below_none : (hs : List Held) (n bound : ℕ) → bound ≤ n → missing_below hs n bound ≡ []
below_none [] n bound le = refl
below_none (h ∷ hs) n bound le =
    ap (λ (b : Bool). if b then missing_of n h ++ missing_below hs (n + 1) bound else []) (le-ltb n bound le)

abbrev IsOpen : List Held → ℕ → ℕ → Type 0
IsOpen hs n bound = is_complete (slot_at hs (bound - n)) ≡ false

rest_open : (h : Held) (hs : List Held) (n bound : ℕ) → n < bound → IsOpen (h ∷ hs) n bound → IsOpen hs (n + 1) bound
rest_open h hs n bound lt e =
    let next : bound - n ≡ suc (bound - (n + 1)) = omega (arith, lt) in
    ap (λ (k : ℕ). is_complete (slot_at (h ∷ hs) k)) (sym next) ∙ e

next_open : (hs : List Held) (n bound : ℕ) → n ≤ bound → bound ≤ n + length hs → IsOpen hs n bound → Tells hs n
    → next_number (missing_below hs n bound) None bound ≡ n + complete_first hs
next_open [] n bound le low e t = omega (arith, le, low)
next_open (h ∷ hs) n bound le low e t = elim (cases_lt n bound) [
  | inl lt ↦
      ap (λ (ms : List Missing). next_number ms None bound) (below_is h hs n bound lt)
      ∙ by (next_open hs (n + 1) bound (omega (arith, lt)) (omega (arith, low)) (rest_open h hs n bound lt e)
      (rest_tells h hs n t)) (missing_of n h) refl (is_complete h) refl
  | inr past ↦
      let place : 0 ≡ bound - n = omega (arith, past) in
      let none : complete_first (h ∷ hs) ≡ 0 =
      none_first (h ∷ hs) (ap (λ (k : ℕ). is_complete (slot_at (h ∷ hs) k)) place ∙ e) in
      ap (λ (ms : List Missing). next_number ms None bound) (below_none (h ∷ hs) n bound past)
      ∙ omega (arith, none, past, le)
]
  where
    by : next_number (missing_below hs (n + 1) bound) None bound ≡ n + 1 + complete_first hs → (ms : List Missing)
        → missing_of n h ≡ ms → (b : Bool) → is_complete h ≡ b
        → next_number (ms ++ missing_below hs (n + 1) bound) None bound ≡ n + (if b then complete_first hs + 1 else 0)
    by rest [] none true full = rest ∙ omega arith
    by rest [] none false part =
        let full : is_complete h ≡ true = t 0 (ap (λ (m : ℕ). missing_of m h) (omega arith) ∙ none) in
        let no : true ≡ false = sym full ∙ part in absurd cc
    by rest (m ∷ ms) some true full =
        let no : m ∷ ms ≡ [] = sym some ∙ none_complete n h full in absurd cc
    by rest (m ∷ ms) some false part =
        let own : (m.number ≡ n) × AllAre n ms = subst (AllAre n) some (said_are n h) in
        own.0 ∙ omega arith

-- ---- behind entries

-- the number of the last of them, and the number behind it
abbrev last_in : List Missing → Option ℕ
last_in [] = None
last_in (x ∷ []) = Some x.number
last_in (x ∷ y ∷ xs) = last_in (y ∷ xs)

abbrev behind_of : List Missing → ℕ
behind_of ms = behind_named (map entry_of ms)

record EndsWith (xs : List Missing) (l : ℕ) : Type 0 where
  last : last_in xs ≡ Some l
  behind : behind_of xs ≡ l + 1
  named : has_entry xs l ≡ true

ends_with : (x : Missing) (xs : List Missing) → (l : ℕ) × EndsWith (x ∷ xs) l
ends_with x [] = (
  x.number,
  record { last = refl; behind = refl; named = or_left (x.number == x.number) false (eq-eqb x.number x.number refl) },
)
ends_with x (y ∷ xs) =
    let r = ends_with y xs in (
      r.0,
      record {
        last = r.1.last;
        behind = r.1.behind;
        named = ap (λ (b : Bool). (x.number == r.0) || b) r.1.named ∙ or-true (x.number == r.0);
      },
    )

last_over : (xs : List Missing) (y : Missing) (ys : List Missing) → last_in (xs ++ y ∷ ys) ≡ last_in (y ∷ ys)
last_over [] y ys = refl
last_over (x ∷ []) y ys = refl
last_over (x ∷ z ∷ xs) y ys = last_over (z ∷ xs) y ys

behind_over : (xs : List Missing) (y : Missing) (ys : List Missing)
    → behind_of (xs ++ y ∷ ys) ≡ behind_of (y ∷ ys)
behind_over [] y ys = refl
behind_over (x ∷ []) y ys = refl
behind_over (x ∷ z ∷ xs) y ys = behind_over (z ∷ xs) y ys

last_one : (n : ℕ) (x : Missing) (xs : List Missing) → AllAre n (x ∷ xs)
    → (last_in (x ∷ xs) ≡ Some n) × (behind_of (x ∷ xs) ≡ n + 1)
last_one n x [] a = (ap (λ (k : ℕ). Some k) a.0, ap (λ (k : ℕ). k + 1) a.0)
last_one n x (y ∷ xs) a = last_one n y xs a.1

-- further entries of the last number are passed
skip : (n bound : ℕ) (xs ys : List Missing) → AllAre n xs
    → next_number (xs ++ ys) (Some n) bound ≡ next_number ys (Some n) bound
skip n bound [] ys a = refl
skip n bound (x ∷ xs) ys a =
    ap (λ (b : Bool). if b then next_number (xs ++ ys) (Some n) bound else x.number) (eq-eqb x.number n a.0)
    ∙ skip n bound xs ys a.1

other : (n bound : ℕ) (hs : List Held) (ms : List Missing) → missing_below hs (n + 1) bound ≡ ms
    → next_number ms (Some n) bound ≡ next_number ms None bound
other n bound hs [] e = refl
other n bound hs (m ∷ ms) e =
    let there : has_entry (missing_below hs (n + 1) bound) m.number ≡ true =
    ap (λ (xs : List Missing). has_entry xs m.number) e
    ∙ or_left (m.number == m.number) (has_entry ms m.number) (eq-eqb m.number m.number refl) in
    let above = entry_in hs (n + 1) bound m.number there in
    ap (λ (b : Bool). if b then next_number ms (Some n) bound else m.number)
    (ne_eqb m.number n (λ same. omega (arith, same, above.0)))

-- one list behind another, and where a beginning of both ends
data Split (xs ys es rest : List Missing) : Type 0 where
  Inside : (more : List Missing) → xs ≡ es ++ more → rest ≡ more ++ ys → Split xs ys es rest
  Beyond : (more : List Missing) → es ≡ xs ++ more → ys ≡ more ++ rest → Split xs ys es rest

split : (xs ys es rest : List Missing) → xs ++ ys ≡ es ++ rest → Split xs ys es rest
split [] ys es rest e = Beyond es refl e
split (x ∷ xs) ys [] rest e = Inside (x ∷ xs) refl (sym e)
split (x ∷ xs) ys (y ∷ es) rest e =
    let first : x ≡ y = cc in
    let left : xs ++ ys ≡ es ++ rest = cc in
    by (split xs ys es rest left) first
  where
    by : Split xs ys es rest → x ≡ y → Split (x ∷ xs) ys (y ∷ es) rest
    by (Inside more is left) first = Inside more (let all : x ∷ xs ≡ y ∷ (es ++ more) = cc in all) left
    by (Beyond more is left) first = Beyond more (let all : y ∷ es ≡ x ∷ (xs ++ more) = cc in all) left

all_first : (n : ℕ) (xs ys : List Missing) → AllAre n (xs ++ ys) → AllAre n xs × AllAre n ys
all_first n [] ys a = (tt, a)
all_first n (x ∷ xs) ys a = let r = all_first n xs ys a.1 in ((a.0, r.0), r.1)

abbrev Answer : List Held → ℕ → ℕ → List Missing → List Missing → Type 0
Answer hs n bound xs ys = next_number ys (last_in xs) bound ≡ n + first_incomplete hs (behind_of xs - n)

no_entry : (hs : List Held) (n : ℕ) → n + complete_first hs ≡ n + first_incomplete hs (0 - n)
no_entry hs n =
    let none : 0 - n ≡ 0 = omega arith in
    ap (λ (k : ℕ). n + k) (omega arith ∙ ap (first_incomplete hs) (sym none))

answer : (hs : List Held) (n bound : ℕ) (xs ys : List Missing) → n ≤ bound → bound ≤ n + length hs
    → IsOpen hs n bound → Tells hs n → missing_below hs n bound ≡ xs ++ ys → Answer hs n bound xs ys
answer hs n bound [] ys le low e t is =
    ap (λ (ms : List Missing). next_number ms None bound) (sym is) ∙ (next_open hs n bound le low e t ∙ no_entry hs n)
answer [] n bound (x ∷ xs) ys le low e t is = absurd cc
answer (h ∷ hs) n bound (x ∷ xs) ys le low e t is = elim (cases_lt n bound) [
  | inl lt ↦ by lt (λ y more left.
      answer hs (n + 1) bound (y ∷ more) ys (omega (arith, lt)) (omega (arith, low)) (rest_open h hs n bound lt e)
      (rest_tells h hs n t) left)
      (split (missing_of n h) (missing_below hs (n + 1) bound) (x ∷ xs) ys (sym (below_is h hs n bound lt) ∙ is))
  | inr past ↦ let no : [] ≡ x ∷ (xs ++ ys) = sym (below_none (h ∷ hs) n bound past) ∙ is in absurd cc
]
  where
    rest : n < bound → next_number (missing_below hs (n + 1) bound) None bound ≡ n + 1 + complete_first hs
    rest lt = next_open hs (n + 1) bound (omega (arith, lt)) (omega (arith, low)) (rest_open h hs n bound lt e)
        (rest_tells h hs n t)

    -- all entries that were chosen are of this number
    here : n < bound → (more : List Missing) → AllAre n (x ∷ xs) → AllAre n more
        → ys ≡ more ++ missing_below hs (n + 1) bound → Answer (h ∷ hs) n bound (x ∷ xs) ys
    here lt more own others left =
        let l = last_one n x xs own in
        let one : behind_of (x ∷ xs) - n ≡ 1 = omega (arith, l.1) in
        ap (λ (o : Option ℕ). next_number ys o bound) l.0
        ∙ (ap (λ (ms : List Missing). next_number ms (Some n) bound) left
        ∙ (skip n bound more (missing_below hs (n + 1) bound) others
        ∙ (other n bound hs (missing_below hs (n + 1) bound) refl
        ∙ (rest lt ∙ (omega arith ∙ sym (ap (λ (k : ℕ). n + first_incomplete (h ∷ hs) k) one))))))

    by : n < bound
        → ((y : Missing) (more : List Missing) → missing_below hs (n + 1) bound ≡ (y ∷ more) ++ ys
        → Answer hs (n + 1) bound (y ∷ more) ys)
        → Split (missing_of n h) (missing_below hs (n + 1) bound) (x ∷ xs) ys → Answer (h ∷ hs) n bound (x ∷ xs) ys
    by lt later (Inside more first left) =
        let both = all_first n (x ∷ xs) more (subst (AllAre n) first (said_are n h)) in
        here lt more both.0 both.1 left
    by lt later (Beyond [] all left) =
        let same : missing_of n h ≡ x ∷ xs = sym (all ∙ append-nil (missing_of n h)) in
        here lt [] (subst (AllAre n) same (said_are n h)) tt (sym left)
    by lt later (Beyond (y ∷ more) all left) =
        let r = ends_with y more in
        let named : has_entry (missing_below hs (n + 1) bound) r.0 ≡ true =
        ap (λ (ms : List Missing). has_entry ms r.0) left
        ∙ (has_append (y ∷ more) ys r.0 ∙ or_left (has_entry (y ∷ more) r.0) (has_entry ys r.0) r.1.named) in
        let above = entry_in hs (n + 1) bound r.0 named in
        let behind : behind_of (x ∷ xs) ≡ behind_of (y ∷ more) =
        ap behind_of all ∙ behind_over (missing_of n h) y more in
        let next : behind_of (x ∷ xs) - n ≡ suc (behind_of (y ∷ more) - (n + 1)) =
        omega (arith, behind, r.1.behind, above.0) in
        ap (λ (o : Option ℕ). next_number ys o bound)
        (ap last_in all ∙ last_over (missing_of n h) y more)
        ∙ (later y more left ∙ (omega arith ∙ sym (ap (λ (k : ℕ). n + first_incomplete (h ∷ hs) k) next)))

-- ---- the entries that fit

fits_prefix : (room : ℕ) (ms : List Missing) → ms ≡ fitting room ms ++ drop (length (fitting room ms)) ms
fits_prefix room [] = refl
fits_prefix room (m ∷ ms) = go (nat_le (entry_bits m) room) (fits_prefix (room - entry_bits m) ms)
  where
    go : (b : Bool) → ms ≡ fitting (room - entry_bits m) ms ++ drop (length (fitting (room - entry_bits m) ms)) ms
        → m ∷ ms ≡ (if b then m ∷ fitting (room - entry_bits m) ms else [])
        ++ drop (length (if b then m ∷ fitting (room - entry_bits m) ms else [])) (m ∷ ms)
    go true rest = ap (λ (xs : List Missing). m ∷ xs) rest
    go false rest = refl

last_got : (x : Missing) (xs ys : List Missing)
    → number_of (slice_get ((x ∷ xs) ++ ys) (length xs)) ≡ last_in (x ∷ xs)
last_got x [] ys = refl
last_got x (y ∷ xs) ys = last_got y xs ys

last_same : (xs ys : List Missing) → last_number (xs ++ ys) (length xs) ≡ last_in xs
last_same [] ys = refl
last_same (x ∷ xs) ys =
    let less : suc (length xs) - 1 ≡ length xs = omega arith in
    ap (λ (b : Bool). if b then None else number_of (slice_get ((x ∷ xs) ++ ys) (suc (length xs) - 1)))
    (ne_eqb (suc (length xs)) 0 (λ z. omega (arith, z)))
    ∙ (ap (λ (k : ℕ). number_of (slice_get ((x ∷ xs) ++ ys) k)) less ∙ last_got x xs ys)

ack_is : (xs ys : List Missing) (bound : ℕ)
    → ack_behind (xs ++ ys) (length xs) bound ≡ next_number ys (last_in xs) bound
ack_is xs ys bound =
    ap (λ (ms : List Missing). next_number ms (last_number (xs ++ ys) (length xs)) bound)
    (drop_at xs ys (length xs) refl)
    ∙ ap (λ (o : Option ℕ). next_number ys o bound) (last_same xs ys)

nacks_same : (ms : List Missing) → map nack_of ms ≡ map nack_with (map entry_of ms)
nacks_same [] = refl
nacks_same (m ∷ ms) = ap (λ ns. nack_of m ∷ ns) (nacks_same ms)

pub reports_true : ReportsAreTrue
reports_true s a size r = record {
  is_true = and_from (begin_so (reported s size) (all_said a))
      (ack s size == open_number a.front a.fields (behind_named (reported s size))) begin
      (eq-eqb (ack s size) (open_number a.front a.fields (behind_named (reported s size))) acks);
  nack_sns = nacks_same xs;
  ack_from = omega (arith, acks);
  ack_to = omega (arith, acks, open_low);
  bound_near = omega (arith, r.bound_low, r.top_near);
  from = λ n e. names.low n e;
  below = λ n e. omega (arith, names.high n e, behind_low);
}
  where
    all : List Missing
    all = listed s

    xs : List Missing
    xs = chosen s size

    ys : List Missing
    ys = drop (length xs) all

    parts : all ≡ xs ++ ys
    parts = fits_prefix (room_in size) all

    few : length s.window.slots ≤ length a.fields
    few = omega (arith, r.front, r.top_is, r.top_low)

    low : s.bound ≤ s.window.front + length s.window.slots
    low = omega (arith, r.bound_is, r.bound_low, r.top_is)

    said : all_said a ≡ reported s size ++ map entry_of ys
    said =
        ap (λ (n : ℕ). said_of_fields n (take (a.bound - a.front) a.fields)) (sym r.front)
        ∙ (ap (λ (k : ℕ). said_of_fields s.window.front (take k a.fields)) (omega (arith, r.front, r.bound_is))
        ∙ (sym (all_same s.window.slots a.fields s.window.front s.bound r.numbers few low)
        ∙ (ap (map entry_of) parts ∙ map-append entry_of xs ys)))

    begin : begin_so (reported s size) (all_said a) ≡ true
    begin = ap (begin_so (reported s size)) said ∙ begins_with (reported s size) (map entry_of ys)

    -- VR(MS) isn't complete
    opens : IsOpen s.window.slots s.window.front s.bound
    opens =
        let place : s.bound - s.window.front ≡ a.bound - a.front = omega (arith, r.front, r.bound_is) in
        ap (λ (k : ℕ). is_complete (slot_at s.window.slots k)) place
        ∙ (pairs_whole s.window.slots a.fields r.numbers (a.bound - a.front) ∙ r.bound_open)

    acks : ack s size ≡ open_number a.front a.fields (behind_named (reported s size))
    acks =
        ap (λ (ms : List Missing). ack_behind ms (length xs) s.bound) parts
        ∙ (ack_is xs ys s.bound
        ∙ (answer s.window.slots s.window.front s.bound xs ys (omega (arith, r.front, r.bound_is, r.front_low)) low
        opens (tells_all s.window.slots a.fields s.window.front r.numbers) parts
        ∙ (ap (λ (n : ℕ). n + first_incomplete s.window.slots (behind_of xs - n)) r.front
        ∙ ap (λ (k : ℕ). a.front + k)
        (open_same s.window.slots a.fields (behind_of xs - a.front) r.numbers))))

    names : Names a.front (take (a.bound - a.front) a.fields) (reported s size)
    names = names_so a.front (take (a.bound - a.front) a.fields) (reported s size) (map entry_of ys) said

    behind_low : behind_named (reported s size) ≤ a.bound
    behind_low = omega (
      arith,
      named_within a.front (a.bound - a.front) a.fields (reported s size)
          (omega (arith, r.top_low, r.bound_low)) begin,
      r.front_low,
    )

    open_low : open_number a.front a.fields (behind_named (reported s size)) ≤ a.bound
    open_low = elim (cases_lt a.bound (open_number a.front a.fields (behind_named (reported s size)))) [
      | inl lt ↦
          let done : whole_at a.fields (a.bound - a.front) ≡ true =
          (open_least a.fields (behind_named (reported s size) - a.front)).before (a.bound - a.front)
          (omega (arith, behind_low)) (omega (arith, lt, r.front_low)) in
          let no : true ≡ false = sym done ∙ r.bound_open in absurd cc
      | inr le ↦ le
    ]

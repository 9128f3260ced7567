-- Which SDUs are confirmed, in one walk: as each is asked for itself.
use Rattle.std.proofs.Common.{◌≡◌, ◌<◌, ◌≤◌, ℕ, zero, suc, ◌+◌, ◌-◌, Bool, true, false, ◌||◌, ◌&&◌, List, [], ◌∷◌}
use Rattle.std.proofs.Common.{refl, ap, sym, ◌∙◌, arith, inl, inr, length, drop, min, nat_lt, nat_le, Some, None}
use Rattle.std.proofs.Common.{slice_get, slice_index_or, if◌then◌else◌}
use Rattle.std.proofs.lemmas.Bool.{cases_lt, lt-ltb, le-ltb, leb-true, le-leb}
use Rattle.std.proofs.lemmas.Bool.Decides.{nat_tests}
use Rattle.journal_account.specs.FlowSending.{SentNumber, FlowSending}
use Rattle.journal_account.specs.FlowAccount.{FlowAccount}
use Rattle.journal_account.specs.FlowConfirmed.{octets_acked, places_acked, stream_acked, are_acked, Rest, behind}
use Rattle.journal_account.specs.FlowConfirmed.{reached}
use Rattle.journal_account.specs.FlowConfirmed.{acked_in, walked, is_among, confirmed_sdus}
use Rattle.journal_account.specs.FlowConfirmed.{is_confirmed_kept}
use Rattle.journal_account.proofs.Confirms.{numbers_left}

-- ---- number by number

pub passed : (numbers : List SentNumber) (at : ℕ) (h : SentNumber) (limit place : ℕ) → slice_get numbers at ≡ Some h
    → place + h.size ≤ limit
    → behind limit (drop (at + 1) numbers) (place + h.size) ≡ behind limit (drop at numbers) place
passed numbers at h limit place is le =
    sym (ap (λ (hs : List SentNumber). behind limit hs place) (numbers_left numbers at h is)
    ∙ ap (λ (b : Bool). if b then behind limit (drop (at + 1) numbers) (place + h.size)
    else record { numbers = h ∷ drop (at + 1) numbers; place = place }) (le-leb (place + h.size) limit le))

not_le : (a b : ℕ) → b < a → nat_le a b ≡ false
not_le a b lt = grind (arith, nat_tests, lt)

pub stands : (numbers : List SentNumber) (at : ℕ) (h : SentNumber) (limit place : ℕ) → slice_get numbers at ≡ Some h
    → limit < place + h.size
    → behind limit (drop at numbers) place ≡ record { numbers = drop at numbers; place = place }
stands numbers at h limit place is lt =
    ap (λ (hs : List SentNumber). behind limit hs place) (numbers_left numbers at h is)
    ∙ ap (λ (b : Bool). if b then behind limit (drop (at + 1) numbers) (place + h.size)
    else record { numbers = h ∷ drop (at + 1) numbers; place = place }) (not_le (place + h.size) limit lt)
    ∙ ap (λ (hs : List SentNumber). record { numbers = hs; place = place }) (sym (numbers_left numbers at h is))

none_there : (numbers : List SentNumber) (at : ℕ) → slice_get numbers at ≡ None → drop at numbers ≡ []
none_there [] zero is = refl
none_there [] (suc at) is = refl
none_there (h ∷ hs) zero is = absurd cc
none_there (h ∷ hs) (suc at) is = none_there hs at is

pub ends_there : (numbers : List SentNumber) (at limit place : ℕ) → slice_get numbers at ≡ None
    → behind limit (drop at numbers) place ≡ record { numbers = drop at numbers; place = place }
ends_there numbers at limit place is =
    ap (λ (hs : List SentNumber). behind limit hs place) (none_there numbers at is)
    ∙ ap (λ (hs : List SentNumber). record { numbers = hs; place = place }) (sym (none_there numbers at is))

pub ruleset passes = (passed, stands, ends_there)

-- ---- nothing is passed that is asked for

grows : (limit : ℕ) (hs : List SentNumber) (place : ℕ) → place ≤ (behind limit hs place).place
grows limit [] place = omega arith
grows limit (h ∷ hs) place = by (nat_le (place + h.size) limit) (grows limit hs (place + h.size))
  where
    by : (b : Bool) → place + h.size ≤ (behind limit hs (place + h.size)).place
        → place ≤ (if b then behind limit hs (place + h.size) else record { numbers = h ∷ hs; place = place }).place
    by true le = omega (arith, le)
    by false le = omega arith

low : (limit : ℕ) (hs : List SentNumber) (place : ℕ) → place ≤ limit → (behind limit hs place).place ≤ limit
low limit [] place le = le
low limit (h ∷ hs) place le = by (nat_le (place + h.size) limit) refl (low limit hs (place + h.size))
  where
    by : (b : Bool) → nat_le (place + h.size) limit ≡ b
        → (place + h.size ≤ limit → (behind limit hs (place + h.size)).place ≤ limit)
        → (if b then behind limit hs (place + h.size) else record { numbers = h ∷ hs; place = place }).place ≤ limit
    by true is rest = rest (leb-true (place + h.size) limit is)
    by false is rest = le

octets_free : (h : SentNumber) (from to : ℕ) → h.size ≤ from → octets_acked from to h ≡ true
octets_free h from to le = by h.acked
  where
    by : (b : Bool) → (b || nat_le (min to h.size) from) ≡ true
    by true = refl
    by false = le-leb (min to h.size) from (omega (arith, le))

same_behind : (limit : ℕ) (hs : List SentNumber) (place from to : ℕ) → (behind limit hs place).place ≤ from
    → acked_in (behind limit hs place) from to ≡ places_acked hs (from - place) (to - place)
same_behind limit [] place from to le = refl
same_behind limit (h ∷ hs) place from to le =
    by (nat_le (place + h.size) limit) refl (same_behind limit hs (place + h.size) from to) le
  where
    by : (b : Bool) → nat_le (place + h.size) limit ≡ b
        → ((behind limit hs (place + h.size)).place ≤ from
        → acked_in (behind limit hs (place + h.size)) from to
        ≡ places_acked hs (from - (place + h.size)) (to - (place + h.size)))
        → (if b then behind limit hs (place + h.size) else record { numbers = h ∷ hs; place = place }).place ≤ from
        → acked_in (if b then behind limit hs (place + h.size) else record { numbers = h ∷ hs; place = place }) from to
        ≡ places_acked (h ∷ hs) (from - place) (to - place)
    by false is rest le = refl
    by true is rest le =
        let more : place + h.size ≤ (behind limit hs (place + h.size)).place = grows limit hs (place + h.size) in
        let f : from - (place + h.size) ≡ from - place - h.size = omega arith in
        let t : to - (place + h.size) ≡ to - place - h.size = omega arith in
        rest le
        ∙ ap (λ (n : ℕ). places_acked hs n (to - (place + h.size))) f
        ∙ ap (λ (n : ℕ). places_acked hs (from - place - h.size) n) t
        ∙ ap (λ (b : Bool). b && places_acked hs (from - place - h.size) (to - place - h.size))
        (sym (octets_free h (from - place) (to - place) (omega (arith, le, more))))

stays : (limit : ℕ) (hs : List SentNumber) (place : ℕ) → limit < place
    → behind limit hs place ≡ record { numbers = hs; place = place }
stays limit [] place lt = refl
stays limit (h ∷ hs) place lt =
    ap (λ (b : Bool). if b then behind limit hs (place + h.size) else record { numbers = h ∷ hs; place = place })
    (not_le (place + h.size) limit (omega (arith, lt)))

-- numbers from a place on tell of the places behind it
abbrev TellsOn : FlowSending → Rest → Type 0
TellsOn s r = (from to : ℕ) → r.place ≤ from → acked_in r from to ≡ stream_acked s from to

tells_behind : (s : FlowSending) (r : Rest) → TellsOn s r → (limit : ℕ) → TellsOn s (behind limit r.numbers r.place)
tells_behind s r tells limit from to le =
    let more : r.place ≤ (behind limit r.numbers r.place).place = grows limit r.numbers r.place in
    same_behind limit r.numbers r.place from to le ∙ tells from to (omega (arith, le, more))

record Reaches (s : FlowSending) (r : Rest) (from : ℕ) : Type 0 where
  tells : TellsOn s r
  here : (to : ℕ) → acked_in r from to ≡ stream_acked s from to

from_start : (s : FlowSending) (from : ℕ) → Reaches s (behind from s.numbers s.start) from
from_start s from = record {
  tells = tells_behind s (record { numbers = s.numbers; place = s.start }) (λ f t le. refl) from;
  here = λ to. elim (cases_lt from s.start) [
    | inl lt ↦ ap (λ (r : Rest). acked_in r from to) (stays from s.numbers s.start lt)
    | inr le ↦ same_behind from s.numbers s.start from to (low from s.numbers s.start le)
  ];
}

reaches : (s : FlowSending) (r : Rest) (from : ℕ) → TellsOn s r → Reaches s (reached s r from) from
reaches s r from tells = by (nat_lt from r.place) refl
  where
    by : (b : Bool) → nat_lt from r.place ≡ b
        → Reaches s (if b then behind from s.numbers s.start else behind from r.numbers r.place) from
    by true is = from_start s from
    by false is =
        let le : r.place ≤ from = grind (arith, nat_tests, is) in
        record {
          tells = tells_behind s r tells from;
          here = λ to.
              same_behind from r.numbers r.place from to (low from r.numbers r.place le)
              ∙ tells from to le;
        }

walked_so : (s : FlowSending) (r : Rest) (from : ℕ) (ends : List ℕ) → TellsOn s r
    → walked s r from ends ≡ are_acked s from ends
walked_so s r from [] tells = refl
walked_so s r from (end ∷ ends) tells =
    let there = reaches s r from tells in
    ap (λ (b : Bool). b ∷ walked s (reached s r from) end ends) (there.here end)
    ∙ ap (λ (bs : List Bool). stream_acked s from end ∷ bs) (walked_so s (reached s r from) end ends there.tells)

pub walks_all : (s : FlowSending) (ends : List ℕ)
    → walked s (record { numbers = s.numbers; place = s.start }) s.start ends ≡ are_acked s s.start ends
walks_all s ends = walked_so s (record { numbers = s.numbers; place = s.start }) s.start ends (λ f t le. refl)

-- ---- each of them

at_ends : (s : FlowSending) (from : ℕ) (ends : List ℕ) (j : ℕ)
    → slice_index_or (are_acked s from ends) j false
    ≡ (nat_lt j (length ends)
    && stream_acked s (slice_index_or (from ∷ ends) j 0) (slice_index_or ends j 0))
at_ends s from [] j = none j
  where
    none : (j : ℕ) → slice_index_or [] j false
        ≡ (nat_lt j 0 && stream_acked s (slice_index_or (from ∷ []) j 0) (slice_index_or [] j 0))
    none j = ap (λ (b : Bool). b && stream_acked s (slice_index_or (from ∷ []) j 0) (slice_index_or [] j 0))
        (sym (le-ltb j 0 (omega arith)))
at_ends s from (end ∷ ends) zero =
    ap (λ (b : Bool). b && stream_acked s from end) (sym (lt-ltb 0 (length (end ∷ ends)) (omega arith)))
at_ends s from (end ∷ ends) (suc j) =
    at_ends s end ends j
    ∙ ap (λ (b : Bool). b && stream_acked s (slice_index_or (end ∷ ends) j 0) (slice_index_or ends j 0))
    (same_lt j (length ends))
  where
    same_lt : (j n : ℕ) → nat_lt j n ≡ nat_lt (suc j) (suc n)
    same_lt j n = grind (arith, nat_tests)

pub confirmed_so : (a : FlowAccount) (k : ℕ) → is_among k (confirmed_sdus a) ≡ is_confirmed_kept k a
confirmed_so a k = ap (λ (b : Bool). nat_lt k a.confirmed.sequenced || b)
    (at_ends a.sending a.sending.start a.confirmed.ends (k - a.confirmed.sequenced))

-- One step of what goes over the numbers from VT(A) on.
use Rattle.std.proofs.Common.{◌≡◌, ◌<◌, ◌≤◌, ℕ, ◌+◌, List, [], ◌∷◌, ◌++◌, length}
use Rattle.std.proofs.Common.{drop, take, Option, Some, None, slice_set, append_assoc, refl, ap, sym, ◌∙◌, arith}
use Rattle.std.proofs.Common.{drop-cons, add-one, nat_lt, if◌then◌else◌}
use Rattle.std.proofs.lemmas.List.{append-nil, take_more_set, drop-set-lt, take_all, drop_all}
use Rattle.journal_account.specs.declared.entry.StatusEntry.{StatusEntry}
use Rattle.journal_account.specs.FlowSending.{SentNumber, never_named, number_at, heard_number, heard_all, first_over}
use Rattle.journal_account.specs.FlowSending.{last_open}

drop-set-behind : (xs : List SentNumber) (at : ℕ) (x : SentNumber)
    → drop (at + 1) (slice_set xs at x) ≡ drop (at + 1) xs
drop-set-behind xs at x = drop-set-lt (at + 1) xs at x (omega arith)

drop-at : (xs : List SentNumber) (at : ℕ) → at < length xs → drop at xs ≡ number_at xs at ∷ drop (at + 1) xs
drop-at xs at h = drop-cons xs at (never_named 0) h ∙ ap (λ n. number_at xs at ∷ drop n xs) (sym (add-one at))

pub heard-step : (ack base : ℕ) (entries : List StatusEntry) (hs : List SentNumber) (at : ℕ) → at < length hs
    → take (at + 1) (slice_set hs at (heard_number ack entries (base + at) (number_at hs at)))
    ++ heard_all ack entries (base + (at + 1))
    (drop (at + 1) (slice_set hs at (heard_number ack entries (base + at) (number_at hs at))))
    ≡ take at hs ++ heard_all ack entries (base + at) (drop at hs)
heard-step ack base entries hs at h =
    let next : base + (at + 1) ≡ base + at + 1 = omega arith in
    rw (
      take_more_set hs at (heard_number ack entries (base + at) (number_at hs at)) h,
      drop-set-behind hs at (heard_number ack entries (base + at) (number_at hs at)),
      drop-at hs at h,
      next,
    )
    (append_assoc (take at hs) (heard_number ack entries (base + at) (number_at hs at) ∷ [])
    (heard_all ack entries (base + at + 1) (drop (at + 1) hs)))

pub heard-whole : (ack base : ℕ) (entries : List StatusEntry) (hs : List SentNumber) (at : ℕ) → length hs ≤ at
    → take at hs ++ heard_all ack entries (base + at) (drop at hs) ≡ hs
heard-whole ack base entries hs at h = rw (take_all at hs h, drop_all at hs h) (append-nil hs)

pub ruleset hears = (heard-step, heard-whole)

pub over-step : (most base : ℕ) (hs : List SentNumber) (at : ℕ) → at < length hs
    → first_over most (base + at) (drop at hs)
    ≡ (if nat_lt most (number_at hs at).namings then Some (base + at)
    else first_over most (base + (at + 1)) (drop (at + 1) hs))
over-step most base hs at h =
    let next : base + (at + 1) ≡ base + at + 1 = omega arith in
    rw (drop-at hs at h, next) refl

pub over-whole : (most base : ℕ) (hs : List SentNumber) (at : ℕ) → length hs ≤ at
    → first_over most (base + at) (drop at hs) ≡ None
over-whole most base hs at h = rw (drop_all at hs h) refl

pub ruleset overs = (over-step, over-whole)

pub open-step : (found : Option ℕ) (hs : List SentNumber) (at : ℕ) → at < length hs
    → last_open at found (drop at hs)
    ≡ last_open (at + 1) (if (number_at hs at).acked then found else Some at) (drop (at + 1) hs)
open-step found hs at h = rw (drop-at hs at h) refl

pub open-whole : (found : Option ℕ) (hs : List SentNumber) (at : ℕ) → length hs ≤ at
    → last_open at found (drop at hs) ≡ found
open-whole found hs at h = rw (drop_all at hs h) refl

pub ruleset opens = (open-step, open-whole)

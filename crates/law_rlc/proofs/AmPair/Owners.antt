-- Which SDU each octet that was sent is of.
use Rattle.std.proofs.Common.{◌≡◌, ◌<◌, ℕ, suc, zero, ◌+◌, Bool, true, false, List, [], ◌∷◌, ◌++◌, length, map, take}
use Rattle.std.proofs.Common.{drop, replicate, slice_index_or, refl, ap, sym, ◌∙◌, arith, append_assoc, length-append}
use Rattle.std.proofs.lemmas.List.{append-nil, take-append-drop, length-take, length-drop, length-replicate}
use Rattle.rlc_am_tx.specs.declared.turn.Turn.{Turn}
use Rattle.rlc_am_tx.specs.declared.turn.Turn.TheVariants as turns
use Rattle.rlc_am_tx.specs.Machine.{State, turn}
use Rattle.law_rlc.specs.AmSender.Run.{Call as SenderCall, Offer, Take, Status, Tick, Expire, Settle, Confirm, after}
use Rattle.law_rlc.specs.AmSender.Run.{run_am_sender, begun}
use Rattle.law_rlc.specs.AmSender.Octets.{Place, places, Octets, nothing_sent, new_count, octets_by, octets_after}
use Rattle.law_rlc.specs.AmSender.Acked.{acked_after}
use Rattle.law_rlc.specs.AmSender.Confirmed.{Confirmations, unconfirmed, sent_by, confirmations_after}
use Rattle.law_rlc.proofs.AmSender.Books.{marks}
use Rattle.law_rlc.proofs.AmSender.Confirms.{after-acked}
use Rattle.law_rlc.specs.AmPair.Flow.{Flow, sender}
use Rattle.law_rlc.specs.AmPair.Numbers.{is_acked}
use Rattle.law_rlc.specs.AmPair.Sdus.{offered_in, offered}
use Rattle.law_rlc.specs.AmPair.Confirmed.{confirmations}

-- ---- as many as octets

abbrev pub SameLens : List (List ℕ) → List (List Place) → Type 0
SameLens [] [] = Unit {0}
SameLens (x ∷ xs) (y ∷ ys) = (length x ≡ length y) × SameLens xs ys
SameLens [] (y ∷ ys) = ⊥
SameLens (x ∷ xs) [] = ⊥

lens-end : (xs : List (List ℕ)) (ys : List (List Place)) (x : List ℕ) (y : List Place) → SameLens xs ys
    → length x ≡ length y → SameLens (xs ++ x ∷ []) (ys ++ y ∷ [])
lens-end [] [] x y h e = (e, tt)
lens-end [] (b ∷ bs) x y h e = absurd h
lens-end (a ∷ as') [] x y h e = absurd h
lens-end (a ∷ as') (b ∷ bs) x y h e = (h.0, lens-end as' bs x y h.1 e)

pub lens-at : (xs : List (List ℕ)) (ys : List (List Place)) (n : ℕ) → SameLens xs ys → n < length xs
    → length (slice_index_or xs n []) ≡ length (slice_index_or ys n [])
lens-at [] ys n h lt = absurd (omega arith)
lens-at (x ∷ xs) [] n h lt = absurd h
lens-at (x ∷ xs) (y ∷ ys) zero h lt = h.0
lens-at (x ∷ xs) (y ∷ ys) (suc n) h lt = lens-at xs ys n h.1 (omega arith)

pub lens-many : (xs : List (List ℕ)) (ys : List (List Place)) → SameLens xs ys → length xs ≡ length ys
lens-many [] [] h = refl
lens-many [] (y ∷ ys) h = absurd h
lens-many (x ∷ xs) [] h = absurd h
lens-many (x ∷ xs) (y ∷ ys) h = ap suc (lens-many xs ys h.1)

pub record Alike (o : Octets) (g : Confirmations) : Type 0 where
  pub sent : SameLens g.sent o.sent
  pub unsent : length g.unsent ≡ length o.unsent

places-length : (b : Bool) (x : List ℕ) → length (places b x) ≡ length x
places-length b [] = refl
places-length b (x ∷ []) = refl
places-length b (x ∷ y ∷ ys) = ap suc (places-length false (y ∷ ys))

turn-alike : (t : Turn) (s : State) (size : ℕ) (o : Octets) (g : Confirmations) → Alike o g
    → (SameLens (sent_by t s size g).sent (octets_by t s size o).sent)
    × (length (sent_by t s size g).unsent ≡ length (octets_by t s size o).unsent)
turn-alike turns.New s size o g h =
    let n = new_count s size in
    let u = h.unsent in
    let a = length-take (new_count s size) g.unsent in let b = length-take (new_count s size) o.unsent in
    let c = length-drop (new_count s size) g.unsent in let d = length-drop (new_count s size) o.unsent in (
      lens-end g.sent o.sent (take (new_count s size) g.unsent) (take (new_count s size) o.unsent) h.sent
          (omega (arith, a, b, u)),
      omega (arith, c, d, u),
    )
turn-alike turns.Whole s size o g h = (h.sent, h.unsent)
turn-alike turns.Part s size o g h = (h.sent, h.unsent)
turn-alike turns.Idle s size o g h = (h.sent, h.unsent)
turn-alike turns.Stopped s size o g h = (h.sent, h.unsent)
turn-alike turns.Small s size o g h = (h.sent, h.unsent)
turn-alike turns.Shut s size o g h = (h.sent, h.unsent)
turn-alike turns.Held s size o g h = (h.sent, h.unsent)

after-alike : (s : State) (c : SenderCall) (o : Octets) (g : Confirmations) → Alike o g
    → Alike (octets_after s c o) (confirmations_after s c g)
after-alike s (Offer sdu) o g h = record {
  sent = h.sent;
  unsent =
      let u = h.unsent in
      let a = length-append g.unsent (replicate (length sdu) g.offered) in
      let b = length-append o.unsent (places true sdu) in
      let c = length-replicate (length sdu) g.offered in let d = places-length true sdu in omega (arith, u, a, b, c, d);
}
after-alike s (Take size held more) o g h = let t = turn-alike (turn s size held more) s size o g h in
    record { sent = t.0; unsent = t.1 }
after-alike s (Status status) o g h = record { sent = h.sent; unsent = h.unsent }
after-alike s Tick o g h = record { sent = h.sent; unsent = h.unsent }
after-alike s (Expire more) o g h = record { sent = h.sent; unsent = h.unsent }
after-alike s (Settle more) o g h = record { sent = h.sent; unsent = h.unsent }
after-alike s Confirm o g h = record { sent = h.sent; unsent = h.unsent }

run-alike : (cs : List SenderCall) (s : State) (o : Octets) (g : Confirmations) → Alike o g
    → Alike (run_am_sender octets_after cs (record { state = s; past = o })).past
    (run_am_sender confirmations_after cs (record { state = s; past = g })).past
run-alike [] s o g h = h
run-alike (c ∷ cs) s o g h =
    run-alike cs (after s c) (octets_after s c o) (confirmations_after s c g) (after-alike s c o g h)

pub alike : (f : Flow) → Alike (sender f).past (confirmations f).past
alike f = run-alike f.sent (begun f.sending nothing_sent).state nothing_sent unconfirmed
    (record { sent = tt; unsent = refl })

-- ---- the same numbers are acknowledged

run-acked : (cs : List SenderCall) (s : State) (g : Confirmations) (a : ℕ → Bool) → g.acked ≡ a
    → (run_am_sender confirmations_after cs (record { state = s; past = g })).past.acked
    ≡ (run_am_sender acked_after cs (record { state = s; past = a })).past
run-acked [] s g a e = e
run-acked (c ∷ cs) s g a e =
    run-acked cs (after s c) (confirmations_after s c g) (acked_after s c a)
    (after-acked s c g ∙ ap (λ (b : ℕ → Bool). acked_after s c b) e)

pub same-acked : (f : Flow) → (confirmations f).past.acked ≡ is_acked f
same-acked f = run-acked f.sent (begun f.sending unconfirmed).state unconfirmed (λ n. false) refl

-- ---- one mark for each octet, by the place of its SDU

abbrev pub joined_marks : List (List ℕ) → List ℕ
joined_marks [] = []
joined_marks (x ∷ xs) = x ++ joined_marks xs

abbrev pub all_marks : Confirmations → List ℕ
all_marks g = joined_marks g.sent ++ g.unsent

marks-end : (xs : List (List ℕ)) (x : List ℕ) → joined_marks (xs ++ x ∷ []) ≡ joined_marks xs ++ x
marks-end [] x = append-nil x
marks-end (y ∷ ys) x = ap (λ (ms : List ℕ). y ++ ms) (marks-end ys x) ∙ sym (append_assoc y (joined_marks ys) x)

pub turn-marks : (t : Turn) (s : State) (size : ℕ) (g : Confirmations)
    → (all_marks (sent_by t s size g) ≡ all_marks g) × ((sent_by t s size g).offered ≡ g.offered)
turn-marks turns.New s size g = (
  ap (λ (ms : List ℕ). ms ++ drop (new_count s size) g.unsent) (marks-end g.sent (take (new_count s size) g.unsent))
      ∙ (append_assoc (joined_marks g.sent) (take (new_count s size) g.unsent) (drop (new_count s size) g.unsent)
      ∙ ap (λ (ms : List ℕ). joined_marks g.sent ++ ms) (take-append-drop (new_count s size) g.unsent)),
  refl,
)
turn-marks turns.Whole s size g = (refl, refl)
turn-marks turns.Part s size g = (refl, refl)
turn-marks turns.Idle s size g = (refl, refl)
turn-marks turns.Stopped s size g = (refl, refl)
turn-marks turns.Small s size g = (refl, refl)
turn-marks turns.Shut s size g = (refl, refl)
turn-marks turns.Held s size g = (refl, refl)

run-marks : (cs : List SenderCall) (s : State) (g : Confirmations)
    → all_marks (run_am_sender confirmations_after cs (record { state = s; past = g })).past
    ≡ all_marks g ++ marks g.offered (map length (offered_in cs))
run-marks [] s g = sym (append-nil (all_marks g))
run-marks (Offer sdu ∷ cs) s g =
    run-marks cs (after s (Offer sdu)) (confirmations_after s (Offer sdu) g)
    ∙ (ap (λ (ms : List ℕ). ms ++ marks (g.offered + 1) (map length (offered_in cs)))
    (sym (append_assoc (joined_marks g.sent) g.unsent (replicate (length sdu) g.offered)))
    ∙ append_assoc (all_marks g) (replicate (length sdu) g.offered)
    (marks (g.offered + 1) (map length (offered_in cs))))
run-marks (Take size held more ∷ cs) s g =
    let t = turn-marks (turn s size held more) s size g in
    run-marks cs (after s (Take size held more)) (confirmations_after s (Take size held more) g)
    ∙ (ap (λ (ms : List ℕ). ms ++ marks (sent_by (turn s size held more) s size g).offered
    (map length (offered_in cs))) t.0
    ∙ ap (λ (n : ℕ). all_marks g ++ marks n (map length (offered_in cs))) t.1)
run-marks (Status status ∷ cs) s g = run-marks cs (after s (Status status)) (confirmations_after s (Status status) g)
run-marks (Tick ∷ cs) s g = run-marks cs (after s Tick) (confirmations_after s Tick g)
run-marks (Expire more ∷ cs) s g = run-marks cs (after s (Expire more)) (confirmations_after s (Expire more) g)
run-marks (Settle more ∷ cs) s g = run-marks cs (after s (Settle more)) (confirmations_after s (Settle more) g)
run-marks (Confirm ∷ cs) s g = run-marks cs (after s Confirm) (confirmations_after s Confirm g)

pub flow-marks : (f : Flow) → all_marks (confirmations f).past ≡ marks 0 (map length (offered f))
flow-marks f = run-marks f.sent (begun f.sending unconfirmed).state unconfirmed

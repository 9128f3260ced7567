-- An acknowledged bearer that needs nothing of a grant is quiet where something isn't acknowledged.
use Rattle.std.proofs.Common.{◌≡◌, ℕ, ◌+◌, ◌*◌, ◌==◌, Bool, true, false, not, ◌||◌, ◌&&◌, List}
use Rattle.std.proofs.Common.{[], ◌∷◌, length, None, refl, sym, ◌∙◌, arith}
use Rattle.std.proofs.lemmas.Bool.Decides.{nat_tests}
use Rattle.std.specs.Prelude.{is_some, slice_get}
use Rattle.bearer.specs.Acknowledged.State.{State, has_more}
use Rattle.bearer.specs.Acknowledged.Sums.{need as am_need, pdcp_waiting}
use Rattle.bearer_pdcp.specs.Ends.{Ends}
use Rattle.pdcp_tx.specs.State.{Offer, offers, sizes}
use Rattle.rlc_am_tx_window.specs.Sent.{resend_size}
use Rattle.rlc_am_tx.specs.Machine.{State as Sender, waits, is_empty, is_shut, again}
use Rattle.rlc_am_tx.specs.Need.{data_need}
use Rattle.rlc_queue.specs.Waiting.{wanted}
use Rattle.law_drain.specs.Grants.{IdleIsQuiet}
use Rattle.law_drain.specs.Quiet.{is_waiting}
use Rattle.law_drain.proofs.Quiet.{joined}

pub none-waiting : (sdus : List (List ℕ)) → wanted sdus ≡ 0 → (length sdus == 0) ≡ true
none-waiting sdus e = let few : length sdus ≡ 0 = omega (arith, e) in grind (arith, nat_tests, few)

pub none-more : (e : Ends) → pdcp_waiting e ≡ 0 → has_more e ≡ false
none-more e h = by (offers e.tx) h
  where
    by : (os : List Offer) → sizes e.tx.kind os + 2 * length os ≡ 0 → is_some (slice_get os 0) ≡ false
    by [] q = refl
    by (o ∷ os) q = absurd (omega (arith, q))

pub data-none : (b : State) → am_need b None ≡ 0 → data_need b.tx (pdcp_waiting b.pdcp) None ≡ 0
unfolding am_need
data-none b e = omega (arith, e)

-- what needs no data PDU
pub idle : (s : Sender) (waiting : ℕ) → data_need s waiting None ≡ 0 → s.failed ≡ false
    → (waits s ≡ false) × ((is_shut s ≡ false) → (wanted s.queue.sdus + waiting ≡ 0))
unfolding data_need
idle s waiting e go = by (waits s) (is_shut s) (wanted s.queue.sdus + waiting == 0) refl refl refl
  where
    by : (w d z : Bool) → waits s ≡ w → is_shut s ≡ d → (wanted s.queue.sdus + waiting == 0) ≡ z
        → (waits s ≡ false) × ((is_shut s ≡ false) → (wanted s.queue.sdus + waiting ≡ 0))
    by true d z x y q =
        let some : 3 + resend_size (again s) ≡ 0 = sym (rw (go, x) refl) ∙ e in absurd (omega (arith, some))
    by false true z x y q = (x, λ no'. let never : true ≡ false = sym y ∙ no' in cc)
    by false false true x y q = (x, λ free. grind (arith, nat_tests, q))
    by false false false x y q =
        let some : 3 + (wanted s.queue.sdus + waiting) ≡ 0 = sym (rw (go, x, y, q) refl) ∙ e in
        absurd (omega (arith, some))

pub idle_is_quiet : IdleIsQuiet
idle_is_quiet b none go some = rw waiting refl
  where
    rests : (waits b.tx ≡ false) × ((is_shut b.tx ≡ false) → (wanted b.tx.queue.sdus + pdcp_waiting b.pdcp ≡ 0))
    rests = idle b.tx (pdcp_waiting b.pdcp) (data-none b none) go

    rest : (d : Bool) → is_shut b.tx ≡ d → ((is_empty b.tx && not (has_more b.pdcp)) || is_shut b.tx) ≡ true
    rest true e = rw e (or-true (is_empty b.tx && not (has_more b.pdcp)))
      where
        or-true : (x : Bool) → (x || true) ≡ true
        or-true true = refl
        or-true false = refl
    rest false e =
        let zero' = rests.1 e in
        rw (none-waiting b.tx.queue.sdus (omega (arith, zero')), none-more b.pdcp (omega (arith, zero'))) refl

    waiting : is_waiting b.tx (has_more b.pdcp) ≡ true
    waiting = joined b.tx (has_more b.pdcp) (record {
      failed = go;
      some = some;
      still = rests.0;
      rest = rest (is_shut b.tx) refl;
    })

-- How lives begin.
use Rattle.std.proofs.Common.{◌≡◌, ◌≤◌, ℕ, ◌+◌, ◌^◌, List, [], ◌++◌, refl, ap, sym, ◌∙◌, arith}
use Rattle.std.specs.Prelude.{if◌then◌else◌}
use Rattle.eps_sec.specs.declared.Keys.{Keys}
use Rattle.pdcp_pdu.specs.declared.PdcpKind.{PdcpKind}
use Rattle.pdcp_pdu.specs.declared.PdcpKind.TheVariants.{Srb}
use Rattle.pdcp_pdu.specs.Kinds.{is_am}
use Rattle.pdcp_sec.specs.Protection.{Protection, protection_of}
use Rattle.pdcp_tx_store.specs.declared.given.Sent.{Sent}
use Rattle.pdcp_tx_store.specs.Given.{from_unacked, data_of}
use Rattle.pdcp_tx.specs.State.{State as Sending, start, kept_again, next_from, waiting_on, first_again}
use Rattle.pdcp_tx.specs.State.{restarted as restarted_sending}
use Rattle.pdcp_tx.specs.Pdus.{width}
use Rattle.pdcp_rx.specs.State.{State as Receiving, fresh, restarted as restarted_receiving}
use Rattle.law_pdcp.specs.SrbPair.Beginning.{BeginAnew}
use Rattle.law_pdcp.specs.SrbPair.Flow.{Event, run_srb_pdcp, srb_pdcp_outset, AreGiven, SrbPdcpBeginAlike}
use Rattle.law_pdcp.proofs.SrbPair.Laws.{Hears, sound}
use Rattle.law_pdcp.proofs.SrbPair.Sending.{Sends}

pub first_life : (p : Protection) (first : ℕ) → first ≤ 2 ^ 32
    → SrbPdcpBeginAlike (start Srb p first) (fresh Srb p first)
unfolding start fresh
first_life p first few = record {
  sends = refl;
  hears = refl;
  key = refl;
  awaited = refl;
  few = few;
  bound = refl;
  owes_none = refl;
  none_again = refl;
  none_given = refl;
  none_waits = refl;
  unset = refl;
  none_held = refl;
  none_ready = refl;
}

-- where a life has come so far that all that is ready has gone up, the next one begins
pub begins_anew : (first : ℕ) (p : Protection) (sdus : List (List ℕ)) (passed : ℕ) (s : Sending) (r : Receiving)
    (keys : Keys) → Sends first p sdus s → Hears first p passed r → r.ready ≡ []
    → BeginAnew (restarted_sending s keys) (restarted_receiving r keys)
unfolding restarted_sending restarted_receiving
begins_anew first p sdus passed s r keys h k ready =
    let again : kept_again s ≡ [] = ap (λ l. from_unacked (data_of l ++ s.again)) h.none_given
    ∙ ap from_unacked h.none_again in
    let next : next_from s.kind s.next ≡ 0 = ap (λ (k : PdcpKind). next_from k s.next) h.srb in
    let zero' : (restarted_receiving r keys).next ≡ 0 = ap (λ (k : PdcpKind). if is_am k then r.next else 0) k.srb in
    let from : first_again (kept_again s) (next_from s.kind s.next) ≡ 0 =
    ap (λ (l : List Sent). first_again l (next_from s.kind s.next)) again ∙ next in
    record {
      alike = record {
        sends = h.srb;
        hears = k.srb;
        key = ap (λ (k : PdcpKind). protection_of k keys r.protection.bearer r.protection.direction) (k.srb ∙ sym h.srb)
            ∙ ap (λ (q : Protection). protection_of s.kind keys q.bearer q.direction) (k.key ∙ sym h.key);
        awaited = zero' ∙ sym next;
        few = omega (arith, next);
        bound = ap (λ n. n + width s.kind) from ∙ ap (λ (k : PdcpKind). 0 + width k) h.srb
            ∙ ap (λ n. n + 2 ^ 32) (sym next);
        owes_none = refl;
        none_again = again;
        none_given = refl;
        none_waits = ap (λ (k : PdcpKind). waiting_on k s.waiting) h.srb;
        unset = h.unset;
        none_held = ap (λ (k : PdcpKind). if is_am k then r.held else []) k.srb;
        none_ready = ready;
      };
      anew = next;
    }

pub next_life : (s : Sending) (r : Receiving) (events : List Event) (keys : Keys) → SrbPdcpBeginAlike s r
    → AreGiven (srb_pdcp_outset s r) events
    → (run_srb_pdcp events (srb_pdcp_outset s r)).receiver.ready ≡ []
    → BeginAnew (restarted_sending (run_srb_pdcp events (srb_pdcp_outset s r)).sender keys)
    (restarted_receiving (run_srb_pdcp events (srb_pdcp_outset s r)).receiver keys)
next_life s r events keys h g ready =
    let f = run_srb_pdcp events (srb_pdcp_outset s r) in
    let k = sound s r events h g in
    begins_anew f.first s.protection f.sdus f.passed f.sender f.receiver keys k.sends k.hears ready

-- The next life begins, on both sides.
use Rattle.std.proofs.Common.{◌≡◌, ◌≤◌, ℕ, Bool, true, false, if◌then◌else◌, List, Option, None, Some, is_some}
use Rattle.std.proofs.Common.{refl, ap, sym, ◌∙◌, arith, subst}
use Rattle.eps_sec.specs.declared.keys.Keys.{Keys}
use Rattle.pdcp_pdu.specs.declared.pdu.PdcpKind.{PdcpKind}
use Rattle.pdcp_pdu.specs.declared.pdu.PdcpKind.TheVariants.{Srb, Um, Am}
use Rattle.pdcp_pdu.specs.Kinds.{is_am}
use Rattle.pdcp_sec.specs.Protection.{Protection, protection_of}
use Rattle.pdcp_tx_store.specs.declared.given.Sent.{Sent}
use Rattle.pdcp_tx_store.specs.Given.{from_unacked}
use Rattle.pdcp_tx_store.specs.Waiting.{Waits}
use Rattle.pdcp_tx.specs.State.{State, restarted, begun, kept_again, next_from, waiting_on, first_again}
use Rattle.journal_takes.specs.TakeEvents.{LifeEnded}
use Rattle.journal_takes.specs.FlowTakes.{FlowTakes, takes_with}
use Rattle.law_takes.specs.Accounted.{IsAccounted}
use Rattle.law_takes.specs.Laws.{LivesAreAccounted}
use Rattle.law_takes.proofs.Settling.{settles, bound-stays, bound-grows, first-kept}

next-on : (kind : PdcpKind) (n : ℕ) → is_am kind ≡ true → next_from kind n ≡ n
next-on Srb n e = absurd cc
next-on (Um bits) n e = absurd cc
next-on (Am bits) n e = refl

waits-on : (kind : PdcpKind) (ws : List Waits) → is_am kind ≡ true → waiting_on kind ws ≡ ws
waits-on Srb ws e = absurd cc
waits-on (Um bits) ws e = absurd cc
waits-on (Am bits) ws e = refl

-- with the next new COUNT and the SDUs that wait, and the report
abbrev next-life : State → Protection → ℕ → List Waits → Option (List ℕ) → Bool → State
next-life s p next waiting owed reporting =
    record (begun (record s { again = kept_again s; next = next; waiting = waiting }) p) {
      owed = owed;
      reporting = reporting;
    }

either : (b : Bool) (n : ℕ) → ◌≡◌ {A = ℕ} (if b then n else n) n
either true n = refl
either false n = refl

life-begins : (s : State) (t : FlowTakes) (p : Protection) (owed : Option (List ℕ)) (report : Bool)
    → is_some owed ≡ report → IsAccounted s t
    → IsAccounted (next-life s p s.next s.waiting owed report) (takes_with (LifeEnded report) t)
life-begins s t p owed report e h =
    let low' : first_again (kept_again s) s.next ≡ t.low =
    ap (λ (l : List Sent). first_again l s.next) h.kept ∙ first-kept t s.next h.next h.account in
    settles (next-life s p s.next s.waiting owed report)
    (record t { begun = t.low; at = t.low; due = report; reporting = report })
    (record {
      am = h.am;
      width = h.width;
      next = h.next;
      base = low';
      waiting = h.waiting;
      due = e;
      reporting = refl;
      again = h.kept;
      kept = ap from_unacked h.kept;
      given = omega arith;
      order = record {
        from_low = h.account.order.from_low;
        from_at = h.account.order.from_low;
        begun = omega arith;
        low = h.account.order.low;
        at = h.account.order.low;
        within = omega (
          arith,
          h.account.order.within,
          bound-grows t.reporting t.begun t.low t.low t.width (omega arith),
          lower t.reporting t.begun t.low h.account.order.begun,
          either report t.low,
        );
        sdus = h.account.order.sdus;
        taken = h.account.order.taken;
        reported = h.account.order.reported;
      };
    })
    (omega (
      arith,
      low',
      h.width,
      either report t.low,
      bound-stays (record t { begun = t.low; at = t.low; due = report; reporting = report }) h.account.low_open,
    ))
  where
    lower : (b : Bool) (begun' low' : ℕ) → begun' ≤ low' → (if b then begun' else low') ≤ low'
    lower true begun' low' le = le
    lower false begun' low' le = omega arith

restarted-as : (s : State) (t : FlowTakes) (keys : Keys) (owed : Option (List ℕ)) (report : Bool)
    → is_some owed ≡ report → IsAccounted s t
    → IsAccounted (next-life s (protection_of s.kind keys s.protection.bearer s.protection.direction)
    (next_from s.kind s.next) (waiting_on s.kind s.waiting) owed report) (takes_with (LifeEnded report) t)
restarted-as s t keys owed report e h =
    let p = protection_of s.kind keys s.protection.bearer s.protection.direction in
    subst (λ (n : ℕ). IsAccounted (next-life s p n (waiting_on s.kind s.waiting) owed report)
    (takes_with (LifeEnded report) t)) (sym (next-on s.kind s.next h.am))
    (subst (λ (ws : List Waits). IsAccounted (next-life s p s.next ws owed report)
    (takes_with (LifeEnded report) t)) (sym (waits-on s.kind s.waiting h.am))
    (life-begins s t p owed report e h))

pub lives_are_accounted : LivesAreAccounted
unfolding restarted
lives_are_accounted s t keys h = record {
  plain = restarted-as s t keys None false refl h;
  owing = λ report. restarted-as s t keys (Some report) true refl h;
}

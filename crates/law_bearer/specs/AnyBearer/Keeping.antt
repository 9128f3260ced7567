-- What the end of a life and the beginning of the next keep (TS 36.323 5.2).
use Rattle.std.specs.Prelude.{◌≡◌, List, [], Some, None}
use Rattle.bearer_types.specs.declared.BearerConfig.{BearerConfig}
use Rattle.eps_sec.specs.declared.Keys.{Keys}
use Rattle.l2_types.specs.declared.Side.{Side}
use Rattle.pdcp_pdu.specs.declared.PdcpKind.{PdcpKind}
use Rattle.pdcp_pdu.specs.declared.PdcpKind.TheVariants.{Srb, Um, Am}
use Rattle.pdcp_rx.specs.State.{report}
use Rattle.pdcp_tx.specs.State.{State as Sending, low, kept_again, first_again}
use Rattle.bearer_pdcp.specs.Ends.{Ends}
use Rattle.bearer.specs.Lives.{stopped}
use Rattle.law_bearer.specs.AnyBearer.Calls.{Step, Restart, goes, reached, ends, ends_between}

-- what waits stays, in its order and with its discard timers
pub record Waits (s t : Sending) : Type 0 where
  pub waiting : t.waiting ≡ s.waiting
  pub clock : t.clock ≡ s.clock
  pub discard : t.discard ≡ s.discard

-- COUNT begins at 0 again on both sides, nothing is taken again, nothing is held, and no report is
-- owed
pub record Anew (e : Ends) : Type 0 where
  pub next : e.tx.next ≡ 0
  pub again : e.tx.again ≡ []
  pub owed : e.tx.owed ≡ None
  pub expected : e.rx.next ≡ 0
  pub held : e.rx.held ≡ []

-- acknowledged data: with their COUNTs the SDUs are taken again that no report confirmed, from the
-- first on that isn't confirmed; the receiver keeps the COUNT that it expects and what it holds, as
-- the end of the life left it, and a report of that is owed first
pub record Continues (before between after : Ends) : Type 0 where
  pub again : after.tx.again ≡ kept_again before.tx
  pub first : first_again after.tx.again after.tx.next ≡ low before.tx
  pub next : after.tx.next ≡ before.tx.next
  pub waits : Waits before.tx after.tx
  pub owed : after.tx.owed ≡ Some (report between.rx)
  pub expected : after.rx.next ≡ between.rx.next
  pub held : after.rx.held ≡ between.rx.held

-- unacknowledged data: what wasn't taken
pub record KeepsWaiting (before after : Ends) : Type 0 where
  pub waits : Waits before.tx after.tx
  pub anew : Anew after

-- signalling: nothing
pub record Forgets (after : Ends) : Type 0 where
  pub waiting : after.tx.waiting ≡ []
  pub anew : Anew after

abbrev pub Keeps : PdcpKind → Ends → Ends → Ends → Type 0
Keeps Srb before between after = Forgets after
Keeps (Um bits) before between after = KeepsWaiting before after
Keeps (Am bits) before between after = Continues before between after

-- PDCP before the end of a life, between the lives, and in the next one
abbrev pub RestartKeeps : Type 0
RestartKeeps =
    (c : BearerConfig) (first : Keys) (side : Side) (steps : List Step) (keys : Keys)
    (d m e : Ends)
    → ends (reached c first side steps) ≡ Some d
    → ends_between (stopped (reached c first side steps)) ≡ Some m
    → ends (goes (reached c first side steps) (Restart keys)) ≡ Some e
    → Keeps d.kind d m e

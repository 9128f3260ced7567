-- A visit of a HARQ process that sends (TS 36.321 5.3.2, 5.4.2, 5.4.3): a new block is built, the
-- held one is sent again, or nothing is sent.
use Rattle.std.specs.Prelude.{ℕ, ◌+◌, ◌%◌, ◌≤◌, List, [], slice_set}
use Rattle.bearer_types.specs.declared.event.Event.{Event}
use Rattle.harq.specs.declared.sender.Order.{Order}
use Rattle.harq.specs.declared.sender.Order.TheVariants as orders
use Rattle.harq.specs.declared.sender.Visit.{Visit}
use Rattle.harq.specs.declared.sender.Visit.TheVariants.{New, Resend, Silent}
use Rattle.harq.specs.Sending.{visit_answer, after_visit, after_load}
use Rattle.prioritise.specs.Shares.{after_allot}
use Rattle.l2_node.specs.End.{End}
use Rattle.l2_node.specs.Writing.{needs, written, new_block}

-- a grant by which a new block may be built has an octet or more
abbrev pub IsEnough : Order → ℕ → Type 0
IsEnough orders.Silent grant = Unit {0}
IsEnough orders.Unseen grant = Unit {0}
IsEnough orders.Free grant = 1 ≤ grant
IsEnough (orders.Grant ndi) grant = 1 ≤ grant

-- after the visit, before anything is built: a block that it drops is no longer held
unfoldable pub visited : ℕ → Order → End → End
visited tti order e = record e { sender = after_visit e.sender tti order }

-- after a new block
unfoldable pub loaded : ℕ → ℕ → End → End
loaded tti grant e = record e {
  bearers = (written e grant).bearers;
  buckets = after_allot e.buckets (needs e grant) (grant + 2);
  sender = after_load e.sender tti (new_block e grant);
  numbers = slice_set e.numbers (tti % 8) (written e grant).block.numbers;
}

abbrev pub built_by : Visit → ℕ → ℕ → End → End
built_by New tti grant e = loaded tti grant e
built_by (Resend rv) tti grant e = e
built_by Silent tti grant e = e

abbrev pub visit_events : Visit → ℕ → End → List Event
visit_events New grant e = (written e grant).block.events
visit_events (Resend rv) grant e = []
visit_events Silent grant e = []

abbrev pub visit : ℕ → Order → End → Visit
visit tti order e = visit_answer e.sender tti order

unfoldable pub built : ℕ → ℕ → Order → End → End
built tti grant order e = built_by (visit tti order e) tti grant (visited tti order e)

-- what the bearers tell
unfoldable pub building : ℕ → ℕ → Order → End → List Event
building tti grant order e = visit_events (visit tti order e) grant (visited tti order e)

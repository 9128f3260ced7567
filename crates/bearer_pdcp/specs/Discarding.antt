-- A TTI begins: SDUs whose discard timers end are dropped, the first of those that wait first (TS
-- 36.323 5.4).
use Rattle.std.specs.Prelude.{ℕ, if◌then◌else◌, List, [], ◌∷◌, length}
use Rattle.bearer_types.specs.declared.Event.{Event}
use Rattle.bearer_types.specs.declared.Event.TheVariants as events
use Rattle.pdcp_tx_store.specs.Waiting.{Waits}
use Rattle.pdcp_tx.specs.State.{State as Sending, is_overdue, after_late, ticked}
use Rattle.bearer_pdcp.specs.Ends.{Ends}

-- the sender without those that are overdue, from the first that waits on
abbrev pub without_late : List Waits → Sending → Sending
without_late [] s = s
without_late (w ∷ ws) s = if is_overdue s then without_late ws (after_late s) else s

abbrev pub late_told : ℕ → List Waits → Sending → List Event
late_told lcid [] s = []
late_told lcid (w ∷ ws) s = if is_overdue s then events.Discard lcid (length w.sdu)
    ∷ late_told lcid ws (after_late s) else []

unfoldable pub after_tick : Ends → Ends
after_tick e = record e { tx = without_late e.tx.waiting (ticked e.tx) }

unfoldable pub tick_told : Ends → List Event
tick_told e = late_told e.lcid e.tx.waiting (ticked e.tx)

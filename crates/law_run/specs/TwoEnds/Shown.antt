-- What records show of the losses of unacknowledged channels
-- (TS 36.322 5.1.2.2, TS 36.323 5.1.2.1).
use Rattle.std.specs.Prelude.{◌≡◌, ℕ, List, [], ◌∷◌, Option, Some, None, slice_index_or}
use Rattle.law_run.specs.AnyCalls.Calls.{HandsOver}
use Rattle.law_run.specs.AnyCalls.Runs.{Step, Calls}
use Rattle.pdcp_pdu.specs.declared.pdu.PdcpKind.{PdcpKind}
use Rattle.pdu_show.specs.declared.kinds.Layout.{Layout}
use Rattle.pdu_show.specs.declared.kinds.Layout.TheVariants as layouts
use Rattle.um_losses.specs.declared.flow.Happening.{Happening}
use Rattle.um_losses.specs.declared.flow.Happening.TheVariants.{LifeRestarted}

-- PDUs of the channel are shown as those of unacknowledged RLC, with numbers of so many bits
pub record IsShown (l bits : ℕ) (kinds : List (Option Layout)) : Type 0 where
  pub kind : PdcpKind
  pub is : slice_index_or kinds l None ≡ Some (layouts.Um bits kind)

-- what a step itself says of each flow
abbrev pub anew : Step → List Happening
anew (Calls (HandsOver keys)) = LifeRestarted ∷ []
anew s = []

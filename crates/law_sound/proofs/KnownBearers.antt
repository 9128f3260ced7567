-- Calls of an end that add no bearer leave its bearers known as what they are.
use Rattle.std.proofs.Common.{◌≡◌, ℕ, Bool, true, false, if◌then◌else◌, Some, None, List, refl, ap, sym, subst}
use Rattle.std.proofs.Common.{◌∙◌}
use Rattle.bearer.specs.declared.flow.Flow.{Flow}
use Rattle.l2_node.specs.End.{End}
use Rattle.l2_node.specs.Finding.{has}
use Rattle.l2_types.specs.declared.side.Side.{Side}
use Rattle.promises.specs.Names.{Mode}
use Rattle.law_node.specs.Bearers.{AddNone}
use Rattle.law_node.specs.Calls.{Call, AreGiven, run_end, reached}
use Rattle.law_node.specs.Holding.{flow}
use Rattle.law_node.specs.Names.{mode, modes_of}
use Rattle.law_node.proofs.Going.{run_goes}
use Rattle.law_node.proofs.Keeping.{reached_are}
use Rattle.law_node.proofs.Owning.{IsOwn, own_kept}
use Rattle.law_node.proofs.Sound.{reached_channels_sound}
use Rattle.law_run.proofs.Modes.{keeps_mode}
use Rattle.law_sound.specs.NamedSteps.{BearersStayKnown}

same_mode : (b : Bool) (f g : Flow) → (b ≡ true → mode f ≡ mode g)
    → (if b then Some (mode f) else None) ≡ (if b then Some (mode g) else None)
same_mode true f g same = ap (λ (m : Mode). Some m) (same refl)
same_mode false f g same = refl

modes_stay : (side : Side) (maximum : ℕ) (reports : Bool) (past calls : List Call) (lcid : ℕ) → AreGiven past
    → AreGiven calls → AddNone lcid calls
    → modes_of (run_end calls (reached side maximum reports past)) lcid
    ≡ modes_of (reached side maximum reports past) lcid
modes_stay side maximum reports past calls lcid given g free =
    let e = reached side maximum reports past in
    let d = run_end calls e in
    let k = run_goes lcid calls e g (reached_channels_sound side maximum reports past given)
    (reached_are IsOwn own_kept side maximum reports past given) free in
    ap (λ (b : Bool). if b then Some (mode (flow lcid d)) else None) k.has_is
    ∙ same_mode (has lcid e.bearers) (flow lcid d) (flow lcid e)
    (λ (there : has lcid e.bearers ≡ true). ap mode (k.goes there).flow_is
    ∙ keeps_mode (k.goes there).steps (flow lcid e))

pub bearers_stay_known : BearersStayKnown
bearers_stay_known kinds side e calls come g free known lcid m is =
    let stay = subst (λ (x : End). modes_of (run_end calls x) lcid ≡ modes_of x lcid) (sym come.end_is)
    (modes_stay side come.maximum come.reports come.past calls lcid come.given g (free lcid)) in
    known lcid m (sym stay ∙ is)

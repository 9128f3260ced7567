-- At an end, a timer that doesn't run expires without a trace.
use Rattle.std.proofs.Common.{◌≡◌, ℕ, Bool, true, false, Option, None, Result, Ok, Err, List, IsTrue, IsErr, IfOk, OnOk}
use Rattle.std.proofs.Common.{refl, ap, sym, subst, ◌∙◌, ◌<◌, length, slice_index_or, arith}
use Rattle.std.proofs.lemmas.Bool.Decides.{nat_tests}
use Rattle.std.proofs.lemmas.List.{set-get_or, get_or_default}
use Rattle.bearer.specs.Bearer.{Of, Life}
use Rattle.bearer_types.specs.declared.event.Event.{Event}
use Rattle.l2_bits.specs.declared.fault.NoMemory.{NoMemory}
use Rattle.l2_types.specs.declared.event.Clock.{Clock}
use Rattle.l2_node.specs.End.{End}
use Rattle.l2_node.specs.Hearing.{bearer_of, with_bearer_of, expiry, expired}
use Rattle.l2_node.specs.Finding.{find, has, bearer_at}
use Rattle.bearer.proofs.Idle.{bearer_kept}

nothing_changes : (lcid : ℕ) (clock : Clock) (e : End) → (bearer_of lcid e).state.dead ≡ false
    → expiry lcid clock e ≡ None → expired lcid clock e ≡ e
unfolding expiry expired
nothing_changes lcid clock e live none =
    ap (λ (b : Of Life). with_bearer_of lcid b e) (bearer_kept (bearer_of lcid e) clock live none)
    ∙ ap (λ (bs : List (Of Life)). record e { bearers = bs }) (set-get_or e.bearers (find lcid e.bearers) _)

-- ---- as a call answers it

-- what is read at the place of a bearer that is there
pub found : (lcid : ℕ) (bs : List (Of Life)) (at : ℕ) (b : Of Life) → at ≡ find lcid bs → has lcid bs ≡ true
    → b ≡ slice_index_or bs at b → bearer_at bs (find lcid bs) ≡ b
found lcid bs at b place there read =
    let within : find lcid bs < length bs = grind (arith, nat_tests) in
    let here : b ≡ slice_index_or bs (find lcid bs) b = subst (λ (n : ℕ). b ≡ slice_index_or bs n b) place read in
    get_or_default bs (find lcid bs) _ b within ∙ sym here

live : (dead : Bool) (events : Option (List Event)) → (IsTrue dead → IsErr {E = NoMemory} (Ok events)) → dead ≡ false
live false events dies = refl
live true events dies = let no : false ≡ true = dies refl in cc

pub idle_if_ok : (lcid : ℕ) (clock : Clock) (e e' : End) (r : Result (Option (List Event)) NoMemory)
    → (IsTrue (bearer_of lcid e).state.dead → IsErr r)
    → IfOk r (λ events. events ≡ expiry lcid clock e) → OnOk r (e' ≡ expired lcid clock e)
    → IfOk r (λ events. events ≡ None → e' ≡ e)
idle_if_ok lcid clock e e' (Ok events) dies told state =
    λ none. state ∙ nothing_changes lcid clock e (live _ events dies) (sym told ∙ none)
idle_if_ok lcid clock e e' (Err no_memory) dies told state = tt

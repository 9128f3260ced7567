-- Discards behind what was told before, and lists joined item by item.
use Rattle.std.proofs.Common.{◌≡◌, Bool, true, false, List, [], ◌∷◌, ◌++◌, length, nat_lt, length-append, append_assoc}
use Rattle.std.proofs.Common.{ap, sym, ◌∙◌, arith}
use Rattle.std.proofs.lemmas.Bool.Decides.{nat_tests}
use Rattle.std.proofs.lemmas.List.{append-nil}
use Rattle.bearer_types.specs.declared.Event.{Event}
use Rattle.bearer_pdcp.specs.Discarding.{after_tick, tick_told}
use Rattle.bearer.specs.Acknowledged.State.{State, work}
use Rattle.bearer.specs.Acknowledged.Hearing.{settled_work, settled_if}
use Rattle.bearer.specs.Acknowledged.Timing.{discard_work}

longer : (a b : List Event) → nat_lt (length a) (length (a ++ b)) ≡ nat_lt 0 (length b)
longer a b = let e = length-append a b in grind (arith, nat_tests, e)

pub discard_some : (s : State) (told : List Event) → nat_lt (length told) (length (told ++ tick_told s.pdcp)) ≡ true
    → settled_work (work (after_tick s.pdcp) s.tx (told ++ tick_told s.pdcp)) ≡ discard_work s told
discard_some s told h =
    ap (λ (b : Bool). settled_if b (work (after_tick s.pdcp) s.tx (told ++ tick_told s.pdcp)))
    (sym h ∙ longer told (tick_told s.pdcp))

pub discard_none : (s : State) (told : List Event) → nat_lt (length told) (length (told ++ tick_told s.pdcp)) ≡ false
    → work (after_tick s.pdcp) s.tx (told ++ tick_told s.pdcp) ≡ discard_work s told
discard_none s told h =
    ap (λ (b : Bool). settled_if b (work (after_tick s.pdcp) s.tx (told ++ tick_told s.pdcp)))
    (sym h ∙ longer told (tick_told s.pdcp))

pub ruleset steps = (discard_some, discard_none)

pub append_one : (es rest : List Event) (e : Event) → (es ++ e ∷ []) ++ rest ≡ es ++ e ∷ rest
append_one es rest e = append_assoc es (e ∷ []) rest

pub append_none : (es : List Event) → es ++ [] ≡ es
append_none es = append-nil es

pub ruleset appends = (append_one, append_none)

-- What a line that breaks no rule may rest on.
use Rattle.std.proofs.Common.{◌≡◌, ◌<◌, ◌≤◌, ℕ, Bool, true, false, not, ◌||◌, ◌&&◌, nat_lt, nat_le, refl, arith}
use Rattle.std.specs.Prelude.{Option, None, Some}
use Rattle.std.proofs.lemmas.Bool.Decides.{nat_tests}
use Rattle.air_link.specs.Link.{Link, end_of}
use Rattle.air_run.specs.declared.refusal.RunRefusal.{RunRefusal}
use Rattle.air_run.specs.declared.refusal.RunRefusal.TheVariants.{DrxFields}
use Rattle.air_run.specs.Rules.{Rules, or_else, refused_if, unknown, bearer_refused, discard_refused, misfit}
use Rattle.air_run.specs.Rules.{late_or_twice}
use Rattle.l2_node.specs.Finding.{has}
use Rattle.l2_types.specs.declared.channel.Kind.{Kind}
use Rattle.l2_types.specs.declared.config.DrxConfig.{DrxConfig}
use Rattle.l2_types.specs.declared.side.Side.{Side}
use Rattle.l2_types.specs.declared.side.Side.TheVariants.{Nb, Ue}

first-none : (a b : Option RunRefusal) → or_else a b ≡ None → a ≡ None
first-none None b e = refl
first-none (Some why) b e = cc

second-none : (a b : Option RunRefusal) → or_else a b ≡ None → b ≡ None
second-none None b e = e
second-none (Some why) b e = cc

no-cause : (cause : Bool) (why : RunRefusal) → refused_if cause why ≡ None → cause ≡ false
no-cause true why e = cc
no-cause false why e = refl

neither : (a b : Bool) → (a || b) ≡ false → (a ≡ false) × (b ≡ false)
neither false false e = (refl, refl)
neither false true e = cc
neither true b e = cc

both : (a b : Bool) → not (a && b) ≡ false → (a ≡ true) × (b ≡ true)
both true true e = (refl, refl)
both true false e = cc
both false b e = cc

-- both ends are without the bearer
pub is_new : (kind : Kind) (lcid : ℕ) (r : Rules) (l : Link) → bearer_refused kind lcid r l ≡ None
    → (has lcid l.nb.bearers ≡ false) × (has lcid l.ue.bearers ≡ false)
is_new kind lcid r l e = neither _ _ (no-cause _ _ (first-none _ _ (second-none _ _ e)))

-- both ends have it
known-both : (lcid : ℕ) (l : Link) → unknown lcid l ≡ None
    → (has lcid l.nb.bearers ≡ true) × (has lcid l.ue.bearers ≡ true)
known-both lcid l e = both _ _ (no-cause _ _ e)

pub is_there : (side : Side) (lcid : ℕ) (l : Link) → unknown lcid l ≡ None → has lcid (end_of side l).bearers ≡ true
is_there Nb lcid l e = (known-both lcid l e).0
is_there Ue lcid l e = (known-both lcid l e).1

pub are_there : (lcid : ℕ) (r : Rules) (l : Link) → discard_refused lcid r l ≡ None
    → (has lcid l.nb.bearers ≡ true) × (has lcid l.ue.bearers ≡ true)
are_there lcid r l e = known-both lcid l (first-none _ _ (second-none _ _ e))

fits-by : (c : DrxConfig) → (nat_lt c.cycle c.on || nat_le c.cycle c.offset) ≡ false
    → (c.on ≤ c.cycle) × (c.offset < c.cycle)
fits-by c e =
    let tests = neither (nat_lt c.cycle c.on) (nat_le c.cycle c.offset) e in
    let on = tests.0 in
    let offset = tests.1 in
    (grind (arith, nat_tests), grind (arith, nat_tests))

pub fits : (came : Bool) (c : DrxConfig) (r : Rules) → or_else (late_or_twice came r) (misfit c) ≡ None
    → (c.on ≤ c.cycle) × (c.offset < c.cycle)
fits came c r e =
    fits-by c (no-cause (nat_lt c.cycle c.on || nat_le c.cycle c.offset) DrxFields
    (second-none (late_or_twice came r) (misfit c) e))

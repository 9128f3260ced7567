use Rattle.std.proofs.Common.{◌∙◌, ap, sym, List, ℕ, ◌++◌}
use Rattle.script_generator.proofs.Making.{given_more, within_more}
use Rattle.script_generator.proofs.script.ScriptSource.read.Goals as goal

pub loop-count-preserved : goal.loop-count-preserved
loop-count-preserved c =
    let front = c.split_at_mut-free.ensures.front in
    let before = c.loop-count.invariant.given ∙ ap (λ (t : List ℕ). t ++ c.loop-count.self) (sym front) in
    record {
      within = within_more _ _ _ _ c.split_at_mut-free.ensures.front_len c.give-given.ensures.room;
      given = given_more _ _ _ _ _ _ _ c.split_at_mut-free.ensures.front_len before c.give-given.ensures.given;
    }

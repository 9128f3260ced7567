use Rattle.air_run.specs.Journal.{script}
use Rattle.script_generator.specs.Script.{script as script_of}
use Rattle.script_generator.specs.Lines.{SayAll}
use Rattle.script_generator.proofs.Saying.{say-script}
use Rattle.line_player.specs.Plays.{state_of}
use Rattle.l2_commands.proofs.Passing.{stopped, summed}
use Rattle.l2_commands.proofs.summing.sum_script.Goals as goal

pub returns-in-Some-clause-played : goal.returns-in-Some-clause-played
returns-in-Some-clause-played g c =
    let said : SayAll (script_of c.args.number) c.new-lines.result =
    rw c.new-lines.ensures (say-script c.args.number) in
    stopped (script_of c.args.number) (state_of script c.pass_lines.new.run) _ _ _
    (c.in-Some.ensures (script_of c.args.number) said)

pub returns-in-None-clause-played : goal.returns-in-None-clause-played
returns-in-None-clause-played g c =
    let said : SayAll (script_of c.args.number) c.new-lines.result =
    rw c.new-lines.ensures (say-script c.args.number) in
    summed (script_of c.args.number) (state_of script c.pass_lines.new.run) _ _ _ _
    (c.in-None.ensures (script_of c.args.number) said) c.finish.ensures.over

-- What is written of a step that stops.
use Rattle.std.proofs.Common.{◌≡◌, ℕ, Bool, true, false, List, [], ◌∷◌, refl, sym, subst}
use Rattle.std.specs.Prelude.{Option, None, Some, Result, Ok, Err}
use Rattle.l2_io.specs.Known.{after}
use Rattle.l2_io.proofs.Written.{after_nothing}
use Rattle.air_record.specs.Text.{texts_of}
use Rattle.air_run.specs.declared.refusal.RunRefusal.{RunRefusal}
use Rattle.air_run.specs.declared.refusal.RunRefusal.TheVariants.{TimerIdle}
use Rattle.air_record.specs.declared.line.Line.{Line}
use Rattle.air_record.specs.declared.record.Record.TheVariants as records
use Rattle.air_record.specs.Text.{accepted_text}
use Rattle.air_run.specs.Rules.{rule_broken, is_idle, or_else, refused_if}
use Rattle.air_run.specs.Run.{RunState, Left, behind_line, step_by, step}
use Rattle.air_run.specs.Steps.{HasBegun}
use Rattle.line_player.specs.Streams.{WritesFront}
use Rattle.air_run.specs.Written.{Journal, told, noted}
use Rattle.air_run.specs.Putting.{pending, text_in}

pub begun_nothing : (left : Result Left RunRefusal) (written : Option (List ℕ)) → HasBegun left written written
begun_nothing (Ok left) written =
    record {
      front = [];
      is_front = record { rest = texts_of left.journal; joined = refl };
      written_is = sym (after_nothing written);
    }
begun_nothing (Err broken) written = refl

-- a line that breaks no rule is run but where its timer is idle, and then nothing is written
begun_if : (b : Bool) (r : RunState) (number : ℕ) (line : Line) (w w' : Option (List ℕ)) → (b ≡ true → w' ≡ w)
    → WritesFront (texts_of (records.Line number line ∷ (behind_line line r).out)) w w'
    → HasBegun (step_by (refused_if b TimerIdle) r number line) w w'
begun_if true r number line w w' idle front = idle refl
begun_if false r number line w w' idle front = front

pub has_begun : (r : RunState) (number : ℕ) (line : Line) (j : Journal) (w w' : Option (List ℕ))
    → rule_broken line r.rules r.link ≡ None → (is_idle line r.link ≡ true → w' ≡ w)
    → j.text ≡ Some (accepted_text number line)
    → WritesFront (pending (told (behind_line line r).out (noted line (behind_line line r) j))) w w'
    → HasBegun (step r number line) w w'
has_begun r number line j w w' allowed idle begun front =
    subst (λ (o : Option RunRefusal). HasBegun (step_by (or_else o (refused_if (is_idle line r.link) TimerIdle)) r
    number line) w w') (sym allowed)
    (begun_if (is_idle line r.link) r number line w w' idle
    (subst (λ (t : Option (List ℕ)). WritesFront (text_in (after t (texts_of (behind_line line r).out))) w w')
    begun front))

pub ruleset begun = (begun_nothing, has_begun)

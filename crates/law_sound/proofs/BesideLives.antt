-- What is gathered as lives begin, and by lines.
use Rattle.std.proofs.Common.{◌≡◌, ◌==◌, Bool, true, if◌then◌else◌, [], refl, ap, ◌∙◌}
use Rattle.std.proofs.lemmas.Bool.{eq-eqb}
use Rattle.air_record.specs.declared.line.Line.TheVariants as lines
use Rattle.l2_types.specs.declared.side.Side.TheVariants.{Nb, Ue}
use Rattle.journal_lives.specs.LifeEvents.{running}
use Rattle.law_sound.specs.BesideLaws.{BearersBeginGathered, MovesAreGathered, OtherLinesLeave}

pub bearers_begin : BearersBeginGathered
bearers_begin nb ue config options j h k = record {
  down_is = ap (λ (b : Bool). running (if b then [] else j.flows.acked Nb config.channel.lcid)) is;
  up_is = ap (λ (b : Bool). running (if b then [] else j.flows.acked Ue config.channel.lcid)) is;
  by_nb = record { held = tt; processes = h };
  by_ue = record { held = tt; processes = k };
}
  where
    is : (config.channel.lcid == config.channel.lcid) ≡ true
    is = eq-eqb config.channel.lcid config.channel.lcid refl

pub moves_are_gathered : MovesAreGathered
moves_are_gathered l a keys j = record {
  down_is = refl;
  up_is = refl;
  by_nb = record { held = tt; processes = refl };
  by_ue = record { held = tt; processes = refl };
}

pub other_lines_leave : OtherLinesLeave
other_lines_leave l a c down up (lines.Bearer config options) j away g = record {
  down_is = ap (λ (b : Bool). running (if b then [] else j.flows.acked Nb l)) away ∙ g.down_is;
  up_is = ap (λ (b : Bool). running (if b then [] else j.flows.acked Ue l)) away ∙ g.up_is;
  by_nb = g.by_nb;
  by_ue = g.by_ue;
}
other_lines_leave l a c down up line j away g = g

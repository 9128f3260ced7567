use Rattle.std.proofs.Common.{◌≡◌, length}
use Rattle.bearer_types.specs.Configs.{IsConfig}
use Rattle.air_text.specs.Words.{texts}
use Rattle.air_text.specs.Options.{options_of}
use Rattle.air_text.proofs.options.options.Given as goal

abbrev pub invariant-loop-words : goal.invariant-loop-words
invariant-loop-words l = record {
  rest : options_of l.config (texts l.words) ≡ options_of l.fn.config (texts l.fn.words);
  ranges : IsConfig l.config;
}

abbrev pub decreases-loop-words : goal.decreases-loop-words
decreases-loop-words l = length l.words

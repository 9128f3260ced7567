use Rattle.std.proofs.Common.{rules, ◌≡◌, ◌∙◌, ap, false, map, string_bytes, sym, true}
use Rattle.cli_words.specs.Commands.{command_of}
use Rattle.cli_words.proofs.Readings.{hyphens, plain_strings}
use Rattle.cli_words.proofs.words.Words.command.Goals as goal

pub command_of_plain-requires : goal.command_of_plain-requires
command_of_plain-requires c =
    let yes : c.are_plain.result ≡ true = search rules in
    sym (plain_strings string_bytes c.as_slice-words.result.now) ∙ (sym c.are_plain.ensures ∙ yes)

pub returns-else-are_plain : goal.returns-else-are_plain
returns-else-are_plain c =
    let no : c.are_plain.result ≡ false = search rules in
    let same : c.args.self.now ≡ map string_bytes c.as_slice-words.result.now = search rules in
    sym (ap command_of same ∙ hyphens (map string_bytes c.as_slice-words.result.now)
    (sym (plain_strings string_bytes c.as_slice-words.result.now) ∙ (sym c.are_plain.ensures ∙ no)))

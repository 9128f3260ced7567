use Rattle.std.proofs.Common.{rules, ◌≡◌, ◌≢◌, ◌∙◌, [], List, ℕ, ap, map, sym, string_bytes}
use Rattle.clap.specs.Words.{App, app_of, fault_of, is_simple, is_simple_and_free, kind_of, subcommand_of}
use Rattle.clap.specs.declared.error.kind.ErrorKind.TheVariants.{OutOfMemory}
use Rattle.cli_words.specs.Line.{command_in, line_app}
use Rattle.cli_words.proofs.Faults.{is_simple-line, simple}
use Rattle.cli_words.proofs.Readings.{kind_refuses, reads, refuses}
use Rattle.cli_words.proofs.words.command_of_plain.Goals as goal

pub returns-in-Ok : goal.returns-in-Ok
returns-in-Ok c =
    let at : app_of c.in_ok-line.line ≡ line_app = search rules in
    let words : List (List ℕ) = map string_bytes c.args.words.now in
    let taken : fault_of line_app words ≡ [] = ap (λ (a : App). fault_of a words) (sym at)
    ∙ c.in-Ok.ensures.kinds (ap is_simple_and_free at ∙ simple) in
    let found = (c.in-Ok.ensures.matches (ap is_simple at ∙ is_simple-line)).1 in
    c.command_in.ensures ∙ ap command_in (found ∙ ap (λ (a : App). subcommand_of a words) at)
    ∙ reads words c.requires taken

pub returns-else-eq : goal.returns-else-eq
returns-else-eq c =
    let at : app_of c.in_ok-line.line ≡ line_app = search rules in
    let words : List (List ℕ) = map string_bytes c.args.words.now in
    let other : kind_of c.in-Err.error ≢ OutOfMemory = search rules in
    let refused : fault_of (app_of c.in_ok-line.line) words ≢ [] =
    kind_refuses _ c.in-Err.error other (c.in-Err.ensures.kinds (ap is_simple_and_free at ∙ simple)) in
    sym (refuses words c.requires (λ taken. refused (ap (λ (a : App). fault_of a words) at ∙ taken)))

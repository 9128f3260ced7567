-- Each terminal's part of a cell's journal is the journal of its own script.
use Rattle.std.proofs.Common.{◌≡◌, ◌⊎◌, ◌+◌, ◌≤◌, ◌==◌, ◌∙◌, ℕ, List, [], ◌∷◌, ◌++◌, refl, ap}
use Rattle.std.proofs.Common.{sym, inl, inr}
use Rattle.std.proofs.Common.{true, false, if◌then◌else◌, append_assoc}
use Rattle.std.specs.Prelude.{Ok}
use Rattle.air_record.specs.declared.line.Line.{Line}
use Rattle.air_record.specs.declared.record.Record.{Record}
use Rattle.air_run.specs.Journal.{RunPlayed, left_by, script}
use Rattle.line_player.specs.Journal.{Goes, journal_from, follow}
use Rattle.air_run.specs.Run.{RunState, Left, step}
use Rattle.script_generator.specs.Lines.{SayAll}
use Rattle.cell_run.specs.Alone.{some_line, own_lines, own_records, is_all, own_close, own_played}
use Rattle.cell_run.specs.Cells.{CellState, terminal_at}
use Rattle.cell_run.specs.Entries.{Entry}
use Rattle.line_player.specs.Journal.{onto}
use Rattle.cell_run.proofs.Scripts.{script-runs}
use Rattle.cell_run.specs.Cells.{CellPlayed}

-- ---- what entries have of a terminal

pub lines-both : (user : ℕ) (es fs : List Entry) → own_lines user (es ++ fs) ≡ own_lines user es ++ own_lines user fs
lines-both user [] fs = refl
lines-both user (e ∷ es) fs =
    elim (e.user == user) as (λ b.
    (if b then some_line e.line ++ own_lines user (es ++ fs) else own_lines user (es ++ fs))
    ≡ (if b then some_line e.line ++ own_lines user es else own_lines user es) ++ own_lines user fs) [
      | true ↦ ap (λ (ls : List Line). some_line e.line ++ ls) (lines-both user es fs)
          ∙ sym (append_assoc (some_line e.line) (own_lines user es) (own_lines user fs))
      | false ↦ lines-both user es fs
    ]

records-both : (user : ℕ) (es fs : List Entry)
    → own_records user (es ++ fs) ≡ own_records user es ++ own_records user fs
records-both user [] fs = refl
records-both user (e ∷ es) fs =
    elim (e.user == user) as (λ b. (if b then e.records ++ own_records user (es ++ fs) else own_records user (es ++ fs))
    ≡ (if b then e.records ++ own_records user es else own_records user es) ++ own_records user fs) [
      | true ↦ ap (λ (rs : List Record). e.records ++ rs) (records-both user es fs)
          ∙ sym (append_assoc e.records (own_records user es) (own_records user fs))
      | false ↦ records-both user es fs
    ]

-- ---- a line of the cell's input is nothing to a terminal, or a line of its own script

pub record IsPassed (user : ℕ) (c c' : CellState) (es : List Entry) : Type 0 where
  pub lines : own_lines user es ≡ []
  pub records : own_records user es ≡ []
  pub run : (terminal_at user c').run ≡ (terminal_at user c).run
  pub count : (terminal_at user c').lines ≡ (terminal_at user c).lines

pub record HasStep (user : ℕ) (c c' : CellState) (es : List Entry) : Type 0 where
  pub line : Line
  pub left : Left
  pub goes : left_by line (Ok left) ≡ Goes left.state left.journal
  pub lines : own_lines user es ≡ line ∷ []
  pub records : own_records user es ≡ left.journal
  pub stepped_is : step (terminal_at user c).run ((terminal_at user c).lines + 1) line ≡ Ok left
  pub run : (terminal_at user c').run ≡ left.state
  pub count : (terminal_at user c').lines ≡ (terminal_at user c).lines + 1

abbrev pub IsOne : ℕ → CellState → CellState → List Entry → Type 0
IsOne user c c' es = IsPassed user c c' es ⊎ HasStep user c c' es

-- ---- from a state on

abbrev pub AloneFrom : ℕ → CellState → CellPlayed → Type 0
AloneFrom user c played = (octets : List ℕ) → SayAll octets (own_lines user played.journal)
    → journal_from script (is_all played.close) (terminal_at user c).run ((terminal_at user c).lines + 1) octets
    ≡ own_played user played

said-same : (octets : List ℕ) (ls ms : List Line) → ls ≡ ms → SayAll octets ls → SayAll octets ms
said-same octets ls ms e h = rw (← e) h

abbrev pub played_with : List Record → CellPlayed → RunPlayed
played_with records played = record { journal = records; close = own_close played.close }

passed-alone : (user : ℕ) (c c' : CellState) (es : List Entry) (later : CellPlayed) → IsPassed user c c' es
    → AloneFrom user c' later → AloneFrom user c (onto es later)
passed-alone user c c' es later p h octets said =
    let lines : own_lines user (es ++ later.journal) ≡ own_lines user later.journal =
    lines-both user es later.journal ∙ ap (λ (ls : List Line). ls ++ own_lines user later.journal) p.lines in
    let records : own_records user (es ++ later.journal) ≡ own_records user later.journal =
    records-both user es later.journal ∙ ap (λ (rs : List Record). rs ++ own_records user later.journal) p.records in
    ap (λ (r : RunState). journal_from script (is_all later.close) r ((terminal_at user c).lines + 1) octets)
    (sym p.run)
    ∙ ap (λ (n : ℕ). journal_from script (is_all later.close) (terminal_at user c').run (n + 1) octets) (sym p.count)
    ∙ h octets (said-same octets _ _ lines said)
    ∙ ap (λ (rs : List Record). played_with rs later) (sym records)

stepped-alone : (user : ℕ) (c c' : CellState) (es : List Entry) (later : CellPlayed) → HasStep user c c' es
    → (terminal_at user c).lines + 1 ≤ 1000000 → AloneFrom user c' later → AloneFrom user c (onto es later)
stepped-alone user c c' es later p few h octets said =
    let r = (terminal_at user c).run in
    let n = (terminal_at user c).lines + 1 in
    let whole = is_all later.close in
    let lines : own_lines user (es ++ later.journal) ≡ p.line ∷ own_lines user later.journal =
    lines-both user es later.journal ∙ ap (λ (ls : List Line). ls ++ own_lines user later.journal) p.lines in
    let records : own_records user (es ++ later.journal) ≡ p.left.journal ++ own_records user later.journal =
    records-both user es later.journal ∙ ap (λ (rs : List Record). rs ++ own_records user later.journal) p.records in
    let all : SayAll octets (p.line ∷ own_lines user later.journal) = said-same octets _ _ lines said in
    let rest : journal_from script whole p.left.state (n + 1) (all.1) ≡ own_played user later =
    ap (λ (t : RunState). journal_from script whole t (n + 1) (all.1)) (sym p.run)
    ∙ ap (λ (k : ℕ). journal_from script whole (terminal_at user c').run (k + 1) (all.1)) (sym p.count)
    ∙ h (all.1) (all.4) in
    script-runs whole octets p.line (own_lines user later.journal) r n all few
    ∙ ap (λ o. follow script n (left_by p.line o) (λ t. journal_from script whole t (n + 1) (all.1))) p.stepped_is
    ∙ ap (λ o. follow script n o (λ t. journal_from script whole t (n + 1) (all.1))) p.goes
    ∙ ap (onto p.left.journal) rest
    ∙ ap (λ (rs : List Record). played_with rs later) (sym records)

pub one-alone : (user : ℕ) (c c' : CellState) (es : List Entry) (later : CellPlayed) → IsOne user c c' es
    → (terminal_at user c).lines + 1 ≤ 1000000 → AloneFrom user c' later → AloneFrom user c (onto es later)
one-alone user c c' es later (inl p) few h = passed-alone user c c' es later p h
one-alone user c c' es later (inr p) few h = stepped-alone user c c' es later p few h

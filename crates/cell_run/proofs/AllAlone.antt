-- Each terminal of a cell runs its own script as it would alone.
use Rattle.std.proofs.Common.{◌≡◌, ◌+◌, ◌<◌, ◌≤◌, ◌==◌, ◌∙◌, ℕ, zero, suc, List, [], ◌∷◌, ◌++◌, refl, ap, sym}
use Rattle.std.proofs.Common.{subst, inl, inr}
use Rattle.std.proofs.Common.{arith, true, false, Bool, nat_lt, if◌then◌else◌, length, append-nil}
use Rattle.std.proofs.Common.{slice_index_or}
use Rattle.l2_io.specs.Feeds.{without_return}
use Rattle.air_record.specs.declared.record.Record.{Record}
use Rattle.line_player.specs.Lines.{lines_ended, tail_of}
use Rattle.air_run.specs.Run.{fresh, finish}
use Rattle.air_run.specs.Sums.{finishing}
use Rattle.air_link.specs.Link.{fresh as fresh_link}
use Rattle.l2_node.specs.End.{fresh as fresh_end}
use Rattle.air_text.specs.declared.fault.LineRefusal.TheVariants.{Long}
use Rattle.script_generator.specs.Lines.{SayAll}
use Rattle.cell_run.specs.Alone.{own_lines, own_records, AllRunAlone}
use Rattle.cell_run.specs.Cells.{CellState, fresh_cell, terminal_at, cell, cell_line}
use Rattle.cell_run.specs.Entries.{Entry}
use Rattle.line_player.specs.Journal.{Outcome, Goes, Ends, Refuses, finished, refused, waiting, follow}
use Rattle.line_player.specs.Journal.{on_line}
use Rattle.line_player.specs.Journal.{on_last, close_by, play, journal_from}
use Rattle.cell_run.specs.Terminals.{Terminal, fresh_terminal, last_entries}
use Rattle.cell_run.specs.declared.fault.CellRule.{CellRule}
use Rattle.line_player.specs.declared.reason.Reason.{Reason}
use Rattle.line_player.specs.declared.reason.Reason.TheVariants as reasons
use Rattle.air_record.specs.declared.line.Line.{Line}
use Rattle.cell_run.proofs.Alone.{played_with, AloneFrom, IsOne, one-alone}
use Rattle.cell_run.proofs.Endings.{line-ends}
use Rattle.cell_run.proofs.Lines.{line-one}
use Rattle.cell_run.proofs.Scripts.{script-ends, script-waits}
use Rattle.cell_run.specs.Cells.{CellPlayed}

-- ---- the end

pub last-lines : (ts : List Terminal) (k user : ℕ) → own_lines user (last_entries k ts) ≡ []
last-lines [] k user = refl
last-lines (t ∷ ts) k user =
    elim (k == user) as (λ b. (if b then own_lines user (last_entries (k + 1) ts)
    else own_lines user (last_entries (k + 1) ts)) ≡ []) [
      | true ↦ last-lines ts (k + 1) user
      | false ↦ last-lines ts (k + 1) user
    ]

last-below : (ts : List Terminal) (k user : ℕ) → user < k → own_records user (last_entries k ts) ≡ []
last-below [] k user less = refl
last-below (t ∷ ts) k user less =
    let other : (k == user) ≡ false = grind (arith, less) in
    rw other (last-below ts (k + 1) user (omega (arith, less)))

-- nothing stands at the end of a run that didn't begin
fresh-finishes : finish fresh ≡ []
unfolding fresh finishing fresh_link fresh_end
fresh-finishes = refl

last-records : (ts : List Terminal) (k i user : ℕ) → user ≡ k + i
    → own_records user (last_entries k ts) ≡ finish (slice_index_or ts i fresh_terminal).run
unfolding fresh_terminal
last-records [] k i user is = sym fresh-finishes
last-records (t ∷ ts) k zero user is =
    let yes : (k == user) ≡ true = grind (arith, is) in
    rw yes (ap (λ (rs : List Record). finish t.run ++ rs) (last-below ts (k + 1) user (omega (arith, is)))
    ∙ append-nil (finish t.run))
last-records (t ∷ ts) k (suc i) user is =
    let other : (k == user) ≡ false = grind (arith, is) in
    rw other (last-records ts (k + 1) i user (omega (arith, is)))

said-none : (octets : List ℕ) (ls : List Line) → ls ≡ [] → SayAll octets ls → SayAll octets []
said-none octets ls e h = subst (λ (x : List Line). SayAll octets x) e h

finished-alone : (user : ℕ) (c : CellState) → AloneFrom user c (finished cell c)
finished-alone user c octets said =
    script-ends octets (terminal_at user c).run ((terminal_at user c).lines + 1)
    (said-none octets _ (last-lines c.terminals 0 user) said)
    ∙ ap (λ (rs : List Record). played_with rs (finished cell c))
    (sym (last-records c.terminals 0 user user (omega arith)))

refused-alone : (user : ℕ) (c : CellState) (number : ℕ) (reason : Reason CellRule) → AloneFrom user c
    (refused number reason)
refused-alone user c number reason octets said =
    script-waits octets (terminal_at user c).run ((terminal_at user c).lines + 1) said

waiting-alone : (user : ℕ) (c : CellState) → AloneFrom user c waiting
waiting-alone user c octets said =
    script-waits octets (terminal_at user c).run ((terminal_at user c).lines + 1) said

-- ---- all lines

-- no terminal has more lines than were read
abbrev IsCounted : ℕ → CellState → Type 0
IsCounted number c = (user : ℕ) → (terminal_at user c).lines < number

one-counted : (user number : ℕ) (c c' : CellState) (es : List Entry) → IsOne user c c' es
    → (terminal_at user c).lines < number → (terminal_at user c').lines < number + 1
one-counted user number c c' es (inl p) less = omega (arith, p.count, less)
one-counted user number c c' es (inr p) less = omega (arith, p.count, less)

follow-alone : (user : ℕ) (c : CellState) (number : ℕ) (text : List ℕ) (o : Outcome CellState Entry CellRule)
    (next : CellState → CellPlayed)
    → cell_line c number text ≡ o → IsCounted number c → number ≤ 1000000
    → ((c' : CellState) → IsCounted (number + 1) c' → AloneFrom user c' (next c'))
    → AloneFrom user c (follow cell number o next)
follow-alone user c number text (Goes c' es) next is counted few later =
    one-alone user c c' es (next c') (line-one user c c' number text es is)
    (let less = counted user in omega (arith, less, few))
    (later c' (λ u. one-counted u number c c' es (line-one u c c' number text es is) (counted u)))
follow-alone user c number text (Ends c' es) next is counted few later =
    let ended = line-ends c c' number text es is in
    rw (ended.state, ended.entries) (finished-alone user c)
follow-alone user c number text (Refuses reason) next is counted few later = refused-alone user c number reason

-- behind the tests of a line's number and length
tested-alone : (user : ℕ) (c : CellState) (number : ℕ) (raw : List ℕ) (played : CellPlayed)
    → (number ≤ 1000000 → AloneFrom user c played)
    → AloneFrom user c (if nat_lt 1000000 number then refused number reasons.Lines
    else if nat_lt 20000 (length raw) then refused number (reasons.Line Long) else played)
tested-alone user c number raw played h =
    elim (nat_lt 1000000 number) as (λ b. nat_lt 1000000 number ≡ b
    → AloneFrom user c (if b then refused number reasons.Lines
    else if nat_lt 20000 (length raw) then refused number (reasons.Line Long) else played)) [
      | true ↦ λ many. refused-alone user c number reasons.Lines
      | false ↦ λ few.
          elim (nat_lt 20000 (length raw)) as (λ b. AloneFrom user c
          (if b then refused number (reasons.Line Long) else played)) [
            | true ↦ refused-alone user c number (reasons.Line Long)
            | false ↦ h (grind (arith, few))
          ]
    ] refl

line-alone : (user : ℕ) (c : CellState) (number : ℕ) (raw : List ℕ) (next : CellState → CellPlayed) → IsCounted number c
    → ((c' : CellState) → IsCounted (number + 1) c' → AloneFrom user c' (next c'))
    → AloneFrom user c (on_line cell c number raw next)
unfolding on_line
line-alone user c number raw next counted later =
    tested-alone user c number raw (follow cell number (cell_line c number (without_return raw)) next)
    (λ few. follow-alone user c number (without_return raw) _ next refl counted few later)

last-alone : (user : ℕ) (c : CellState) (number : ℕ) (raw : List ℕ) → IsCounted number c
    → AloneFrom user c (on_last cell c number raw)
unfolding on_last
last-alone user c number raw counted =
    tested-alone user c number raw (follow cell number (cell_line c number raw) (finished cell))
    (λ few. follow-alone user c number raw _ (finished cell) refl counted few (λ c' more. finished-alone user c'))

close-alone : (user : ℕ) (c : CellState) (number : ℕ) (whole : Bool) (tail : List ℕ) → IsCounted number c
    → AloneFrom user c (close_by cell whole tail c number)
unfolding close_by
close-alone user c number true tail counted =
    elim (length tail == 0) as (λ b. AloneFrom user c
    (if b then finished cell c else on_last cell c number tail)) [
      | true ↦ finished-alone user c
      | false ↦ last-alone user c number tail counted
    ]
close-alone user c number false tail counted =
    elim (length tail == 0) as (λ b. AloneFrom user c
    (if b then waiting else if nat_lt 1000000 number then refused number reasons.Lines
    else if nat_lt 20000 (length tail) then refused number (reasons.Line Long) else waiting)) [
      | true ↦ waiting-alone user c
      | false ↦ tested-alone user c number tail waiting (λ few. waiting-alone user c)
    ]

play-alone : (user : ℕ) (whole : Bool) (tail : List ℕ) (raws : List (List ℕ)) (c : CellState) (number : ℕ)
    → IsCounted number c → AloneFrom user c (play cell (close_by cell whole tail) c number raws)
unfolding play
play-alone user whole tail [] c number counted = close-alone user c number whole tail counted
play-alone user whole tail (raw ∷ raws) c number counted =
    line-alone user c number raw (λ t. play cell (close_by cell whole tail) t (number + 1) raws) counted
    (λ c' more. play-alone user whole tail raws c' (number + 1) more)

pub all-alone : AllRunAlone
unfolding journal_from fresh_terminal
all-alone whole octets user =
    play-alone user whole (tail_of octets) (lines_ended octets) fresh_cell 1 (λ u. omega arith)

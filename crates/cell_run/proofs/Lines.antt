-- What each line of a cell's input is to one of its terminals.
use Rattle.std.proofs.Common.{◌≡◌, ◌≢◌, ◌⊎◌, ◌+◌, ◌<◌, ◌≤◌, ◌==◌, ◌∙◌, ℕ, zero, suc, List, [], ◌∷◌, ◌++◌, refl, ap}
use Rattle.std.proofs.Common.{sym, inl, inr}
use Rattle.std.proofs.Common.{arith, true, false, nat_le, nat_lt, if◌then◌else◌, length, append-nil}
use Rattle.std.proofs.Common.{replicate, slice_index, slice_index_or, slice_set}
use Rattle.std.specs.Prelude.{Option, None, Some, Result, Ok, Err}
use Rattle.std.proofs.lemmas.Bool.{eqb-true}
use Rattle.std.proofs.lemmas.List.{get_or-set_same, get_or-set_other}
use Rattle.air_record.specs.declared.line.Line.{Line}
use Rattle.air_record.specs.declared.line.Line.TheVariants as script_lines
use Rattle.air_record.specs.declared.line.Outcome.{Outcome as Fate}
use Rattle.air_record.specs.declared.record.Record.{Record}
use Rattle.air_run.specs.Journal.{left_by}
use Rattle.air_run.specs.Rules.{rule_broken}
use Rattle.air_run.specs.Run.{Left, step, done}
use Rattle.air_run.specs.declared.refusal.RunRefusal.{RunRefusal}
use Rattle.cell_run.specs.Alone.{some_line, own_lines, own_records}
use Rattle.cell_run.specs.Cells.{CellState, terminal_at, with_terminal, placed, is_own, unknown, unless, has_none}
use Rattle.cell_run.specs.Cells.{missing}
use Rattle.cell_run.specs.Cells.{own_line, founds, set_air, goes, goes_by, grants, acted, cell_line, read_by}
use Rattle.cell_text.specs.Reading.{read_cell_of}
use Rattle.cell_run.specs.Entries.{Entry}
use Rattle.line_player.specs.Journal.{Outcome, Goes, Refuses}
use Rattle.cell_run.specs.Terminals.{Terminal, fresh_terminal, behind_step, own_entry, stepped, own_step, tti_line}
use Rattle.cell_run.specs.Terminals.{tti_records, behind_tti, all_behind, all_entries, up_wish, down_wish}
use Rattle.cell_run.specs.declared.fault.CellRefusal.TheVariants.{NoCell, UnknownUser, CellTwice, NotHere}
use Rattle.cell_run.specs.declared.fault.CellRule.TheVariants as rules
use Rattle.line_player.specs.declared.reason.Reason.TheVariants as reasons
use Rattle.cell_text.specs.declared.line.CellLine.{CellLine}
use Rattle.cell_text.specs.declared.line.CellLine.TheVariants as lines
use Rattle.cell_run.proofs.Alone.{IsOne}
use Rattle.cell_run.specs.declared.fault.CellRule.{CellRule}

-- ---- outcomes

pub goes-state : {S R : Type 0} (a b : S) (xs ys : List Entry)
    → ◌≡◌ {A = Outcome S Entry R} (Goes a xs) (Goes b ys) → a ≡ b
goes-state a b xs ys e = cc

pub goes-entries : {S R : Type 0} (a b : S) (xs ys : List Entry)
    → ◌≡◌ {A = Outcome S Entry R} (Goes a xs) (Goes b ys) → xs ≡ ys
goes-entries a b xs ys e = cc

-- a line that a terminal's script may have ends no script
own-goes : (line : Line) (left : Left) → is_own line ≡ true
    → left_by line (Ok left) ≡ Goes left.state left.journal
own-goes script_lines.End left own = cc
own-goes (script_lines.Harq visits) left own = refl
own-goes script_lines.Bsr left own = refl
own-goes (script_lines.Keys keys) left own = refl
own-goes (script_lines.Bearer config options) left own = refl
own-goes (script_lines.Submit side lcid octets) left own = refl
own-goes (script_lines.Tti up_grant up down_grant down) left own = refl
own-goes (script_lines.Expire side lcid clock) left own = refl
own-goes (script_lines.Handover user rrc integrity) left own = refl
own-goes script_lines.LoopOff left own = refl
own-goes (script_lines.LoopA size) left own = refl
own-goes (script_lines.LoopB delay) left own = refl
own-goes (script_lines.Drain grant) left own = refl
own-goes (script_lines.Forge side octets) left own = refl
own-goes (script_lines.Discard lcid ttis) left own = refl
own-goes (script_lines.Drx config) left own = refl

-- ---- one entry

pub entry-lines : (user : ℕ) (e : Entry) → e.user ≡ user → own_lines user (e ∷ []) ≡ some_line e.line
entry-lines user e is = let yes : (e.user == user) ≡ true = grind (arith, is) in rw yes (append-nil (some_line e.line))

entry-records : (user : ℕ) (e : Entry) → e.user ≡ user → own_records user (e ∷ []) ≡ e.records
entry-records user e is = let yes : (e.user == user) ≡ true = grind (arith, is) in rw yes (append-nil e.records)

pub other-lines : (user : ℕ) (e : Entry) (es : List Entry) → e.user ≢ user → own_lines user (e ∷ es) ≡ own_lines user es
other-lines user e es is = let other : (e.user == user) ≡ false = grind (arith, is) in rw other refl

other-records : (user : ℕ) (e : Entry) (es : List Entry) → e.user ≢ user
    → own_records user (e ∷ es) ≡ own_records user es
other-records user e es is = let other : (e.user == user) ≡ false = grind (arith, is) in rw other refl

pub same-or-other : (a b : ℕ) → (a ≡ b) ⊎ (a ≢ b)
same-or-other a b =
    elim (a == b) as (λ t. (a == b) ≡ t → (a ≡ b) ⊎ (a ≢ b)) [
      | true ↦ λ e. inl (grind (arith, e))
      | false ↦ λ e. inr (grind (arith, e))
    ] refl

-- ---- a line of a terminal's own script

own-one : (user u : ℕ) (line : Line) (left : Left) (c : CellState) → u < length c.terminals → is_own line ≡ true
    → step (terminal_at u c).run ((terminal_at u c).lines + 1) line ≡ Ok left → (u ≡ user) ⊎ (u ≢ user)
    → IsOne user c (with_terminal u (behind_step left.state (terminal_at u c)) c)
    (own_entry u line left.journal ∷ [])
own-one user u line left c there own is (inl same) =
    let t' = behind_step left.state (terminal_at u c) in
    let at : slice_index_or (slice_set c.terminals u t') user fresh_terminal ≡ t' =
    ap (λ (n : ℕ). slice_index_or (slice_set c.terminals u t') n fresh_terminal) (sym same)
    ∙ get_or-set_same c.terminals u t' fresh_terminal there in
    inr (record {
      line = line;
      left = left;
      goes = own-goes line left own;
      lines = entry-lines user (own_entry u line left.journal) same;
      records = entry-records user (own_entry u line left.journal) same;
      stepped_is = rw same at is;
      run = ap (λ (t : Terminal). t.run) at;
      count = ap (λ (t : Terminal). t.lines) at ∙ ap (λ (n : ℕ). (terminal_at n c).lines + 1) same;
    })
own-one user u line left c there own is (inr other) =
    let t' = behind_step left.state (terminal_at u c) in
    let at : slice_index_or (slice_set c.terminals u t') user fresh_terminal ≡ terminal_at user c =
    get_or-set_other c.terminals u user t' fresh_terminal (λ e. other (sym e)) in
    inl (record {
      lines = other-lines user (own_entry u line left.journal) [] other;
      records = other-records user (own_entry u line left.journal) [] other;
      run = ap (λ (t : Terminal). t.run) at;
      count = ap (λ (t : Terminal). t.lines) at;
    })

own-by : (user u : ℕ) (line : Line) (c c' : CellState) (es : List Entry) (result : Result Left RunRefusal)
    → u < length c.terminals → is_own line ≡ true
    → step (terminal_at u c).run ((terminal_at u c).lines + 1) line ≡ result
    → placed u c (stepped u line (terminal_at u c) result) ≡ Goes c' es → IsOne user c c' es
own-by user u line c c' es (Err broken) there own is e = cc
own-by user u line c c' es (Ok left) there own is e =
    rw (← goes-state _ _ _ _ e, ← goes-entries _ _ _ _ e)
    (own-one user u line left c there own is (same-or-other u user))

own-line-one : (user u : ℕ) (line : Option Line) (c c' : CellState) (es : List Entry) → u < length c.terminals
    → own_line u line c ≡ Goes c' es → IsOne user c c' es
own-line-one user u None c c' es there e = cc
own-line-one user u (Some line) c c' es there e =
    elim (is_own line) as (λ b. is_own line ≡ b
    → (if b then placed u c (own_step u line (terminal_at u c)) else Refuses (reasons.Rule (rules.Cell NotHere)))
    ≡ Goes c' es
    → IsOne user c c' es) [
      | true ↦ λ own goes. own-by user u line c c' es _ there own refl goes
      | false ↦ λ own goes. cc
    ] refl e

-- the terminal is there
pub known-there : (u : ℕ) (c c' : CellState) (es : List Entry) (o : Outcome CellState Entry CellRule)
    → unless (unknown u c) o ≡ Goes c' es → (u < length c.terminals) × (o ≡ Goes c' es)
known-there u c c' es o e =
    elim (has_none c) as (λ b. unless (if b then Some NoCell
    else if nat_le (length c.terminals) u then Some UnknownUser else None) o ≡ Goes c' es
    → (u < length c.terminals) × (o ≡ Goes c' es)) [
      | true ↦ λ bad. cc
      | false ↦ λ some.
          elim (nat_le (length c.terminals) u) as (λ b. nat_le (length c.terminals) u ≡ b
          → unless (if b then Some UnknownUser else None) o ≡ Goes c' es
          → (u < length c.terminals) × (o ≡ Goes c' es)) [
            | true ↦ λ few bad. cc
            | false ↦ λ few goes. (grind (arith, few), goes)
          ] refl some
    ] e

-- ---- the other lines

at-replicate : (n i : ℕ) (t : Terminal) → slice_index_or (replicate n t) i t ≡ t
at-replicate zero i t = refl
at-replicate (suc n) zero t = refl
at-replicate (suc n) (suc i) t = at-replicate n i t

none-at : (ts : List Terminal) (i : ℕ) (d : Terminal) → (length ts == 0) ≡ true → slice_index_or ts i d ≡ d
none-at [] i d none = refl
none-at (t ∷ ts) i d none = let empty = eqb-true (length (t ∷ ts)) 0 none in absurd (omega (arith, empty))

founds-one : (user users : ℕ) (c c' : CellState) (es : List Entry) → founds users c ≡ Goes c' es → IsOne user c c' es
founds-one user users c c' es e =
    elim (has_none c) as (λ b. has_none c ≡ b
    → (if b then Goes (record c { terminals = replicate users fresh_terminal }) []
    else Refuses (reasons.Rule (rules.Cell CellTwice))) ≡ Goes c' es → IsOne user c c' es) [
      | true ↦ λ none goes.
          let before : terminal_at user c ≡ fresh_terminal = none-at c.terminals user fresh_terminal none in
          let at : slice_index_or (replicate users fresh_terminal) user fresh_terminal ≡ terminal_at user c =
          at-replicate users user fresh_terminal ∙ sym before in
          rw (← goes-state _ _ _ _ goes, ← goes-entries _ _ _ _ goes) (inl (record {
            lines = refl;
            records = refl;
            run = ap (λ (t : Terminal). t.run) at;
            count = ap (λ (t : Terminal). t.lines) at;
          }))
      | false ↦ λ some bad. cc
    ] refl e

air-one : (user u : ℕ) (up down : Fate) (c : CellState) → u < length c.terminals → (u ≡ user) ⊎ (u ≢ user)
    → IsOne user c (set_air u up down c) []
air-one user u up down c there (inl same) =
    let t' : Terminal = record (terminal_at u c) { up = up; down = down } in
    let at : slice_index_or (slice_set c.terminals u t') user fresh_terminal ≡ t' =
    ap (λ (n : ℕ). slice_index_or (slice_set c.terminals u t') n fresh_terminal) (sym same)
    ∙ get_or-set_same c.terminals u t' fresh_terminal there in
    inl (record {
      lines = refl;
      records = refl;
      run = ap (λ (t : Terminal). t.run) at ∙ ap (λ (n : ℕ). (terminal_at n c).run) same;
      count = ap (λ (t : Terminal). t.lines) at ∙ ap (λ (n : ℕ). (terminal_at n c).lines) same;
    })
air-one user u up down c there (inr other) =
    let t' : Terminal = record (terminal_at u c) { up = up; down = down } in
    let at : slice_index_or (slice_set c.terminals u t') user fresh_terminal ≡ terminal_at user c =
    get_or-set_other c.terminals u user t' fresh_terminal (λ e. other (sym e)) in
    inl (record {
      lines = refl;
      records = refl;
      run = ap (λ (t : Terminal). t.run) at;
      count = ap (λ (t : Terminal). t.lines) at;
    })

-- ---- a TTI of all

behind-at : (ups downs : List ℕ) (ts : List Terminal) (k i user : ℕ) (d : Terminal) → user ≡ k + i → i < length ts
    → slice_index_or (all_behind ups downs k ts) i d
    ≡ behind_tti (slice_index ups user) (slice_index downs user) (slice_index_or ts i d)
behind-at ups downs [] k i user d is inside = absurd (omega (arith, inside))
behind-at ups downs (t ∷ ts) k zero user d is inside =
    let same : k ≡ user = omega (arith, is) in
    ap (λ (n : ℕ). behind_tti (slice_index ups n) (slice_index downs n) t) same
behind-at ups downs (t ∷ ts) k (suc i) user d is inside =
    behind-at ups downs ts (k + 1) i user d (omega (arith, is)) (omega (arith, inside))

behind-none : (ups downs : List ℕ) (ts : List Terminal) (k i : ℕ) (d : Terminal) → length ts ≤ i
    → slice_index_or (all_behind ups downs k ts) i d ≡ slice_index_or ts i d
behind-none ups downs [] k i d out = refl
behind-none ups downs (t ∷ ts) k zero d out = absurd (omega (arith, out))
behind-none ups downs (t ∷ ts) k (suc i) d out = behind-none ups downs ts (k + 1) i d (omega (arith, out))

lines-below : (ups downs : List ℕ) (ts : List Terminal) (k user : ℕ) → user < k
    → own_lines user (all_entries ups downs k ts) ≡ []
lines-below ups downs [] k user less = refl
lines-below ups downs (t ∷ ts) k user less =
    let other : (k == user) ≡ false = grind (arith, less) in
    rw other (lines-below ups downs ts (k + 1) user (omega (arith, less)))

records-below : (ups downs : List ℕ) (ts : List Terminal) (k user : ℕ) → user < k
    → own_records user (all_entries ups downs k ts) ≡ []
records-below ups downs [] k user less = refl
records-below ups downs (t ∷ ts) k user less =
    let other : (k == user) ≡ false = grind (arith, less) in
    rw other (records-below ups downs ts (k + 1) user (omega (arith, less)))

-- the line that a TTI is to one of the terminals
abbrev pub line_at : List ℕ → List ℕ → ℕ → Terminal → Line
line_at ups downs user t = tti_line (slice_index ups user) (slice_index downs user) t

pub lines-at : (ups downs : List ℕ) (ts : List Terminal) (k i user : ℕ) (d : Terminal) → user ≡ k + i → i < length ts
    → own_lines user (all_entries ups downs k ts) ≡ line_at ups downs user (slice_index_or ts i d) ∷ []
lines-at ups downs [] k i user d is inside = absurd (omega (arith, inside))
lines-at ups downs (t ∷ ts) k zero user d is inside =
    let same : k ≡ user = omega (arith, is) in
    let yes : (k == user) ≡ true = grind (arith, same) in
    rw yes (ap (λ (ls : List Line). line_at ups downs k t ∷ ls)
    (lines-below ups downs ts (k + 1) user (omega (arith, same)))
    ∙ ap (λ (n : ℕ). line_at ups downs n t ∷ []) same)
lines-at ups downs (t ∷ ts) k (suc i) user d is inside =
    let other : (k == user) ≡ false = grind (arith, is) in
    rw other (lines-at ups downs ts (k + 1) i user d (omega (arith, is)) (omega (arith, inside)))

records-at : (ups downs : List ℕ) (ts : List Terminal) (k i user : ℕ) (d : Terminal) → user ≡ k + i → i < length ts
    → own_records user (all_entries ups downs k ts)
    ≡ tti_records (line_at ups downs user (slice_index_or ts i d)) (slice_index_or ts i d)
records-at ups downs [] k i user d is inside = absurd (omega (arith, inside))
records-at ups downs (t ∷ ts) k zero user d is inside =
    let same : k ≡ user = omega (arith, is) in
    let yes : (k == user) ≡ true = grind (arith, same) in
    rw yes (ap (λ (rs : List Record). tti_records (line_at ups downs k t) t ++ rs)
    (records-below ups downs ts (k + 1) user (omega (arith, same)))
    ∙ append-nil (tti_records (line_at ups downs k t) t)
    ∙ ap (λ (n : ℕ). tti_records (line_at ups downs n t) t) same)
records-at ups downs (t ∷ ts) k (suc i) user d is inside =
    let other : (k == user) ≡ false = grind (arith, is) in
    rw other (records-at ups downs ts (k + 1) i user d (omega (arith, is)) (omega (arith, inside)))

pub lines-above : (ups downs : List ℕ) (ts : List Terminal) (k i user : ℕ) → user ≡ k + i → length ts ≤ i
    → own_lines user (all_entries ups downs k ts) ≡ []
lines-above ups downs [] k i user is out = refl
lines-above ups downs (t ∷ ts) k zero user is out = absurd (omega (arith, out))
lines-above ups downs (t ∷ ts) k (suc i) user is out =
    let other : (k == user) ≡ false = grind (arith, is) in
    rw other (lines-above ups downs ts (k + 1) i user (omega (arith, is)) (omega (arith, out)))

records-above : (ups downs : List ℕ) (ts : List Terminal) (k i user : ℕ) → user ≡ k + i → length ts ≤ i
    → own_records user (all_entries ups downs k ts) ≡ []
records-above ups downs [] k i user is out = refl
records-above ups downs (t ∷ ts) k zero user is out = absurd (omega (arith, out))
records-above ups downs (t ∷ ts) k (suc i) user is out =
    let other : (k == user) ≡ false = grind (arith, is) in
    rw other (records-above ups downs ts (k + 1) i user (omega (arith, is)) (omega (arith, out)))

tti-steps : (up_grant down_grant : ℕ) (t : Terminal)
    → step t.run (t.lines + 1) (tti_line up_grant down_grant t)
    ≡ Ok (record {
      state = done (tti_line up_grant down_grant t) t.run;
      journal = tti_records (tti_line up_grant down_grant t) t;
    })
unfolding rule_broken
tti-steps up_grant down_grant t = refl

goes-one : (user : ℕ) (ups downs : List ℕ) (c c' : CellState) (es : List Entry)
    → (user < length c.terminals) ⊎ (length c.terminals ≤ user) → goes_by ups downs c ≡ Goes c' es
    → IsOne user c c' es
goes-one user ups downs c c' es (inl inside) e =
    let t = terminal_at user c in
    let line = line_at ups downs user t in
    let at = behind-at ups downs c.terminals 0 user user fresh_terminal (omega arith) inside in
    rw (← goes-state _ _ _ _ e, ← goes-entries _ _ _ _ e) (inr (record {
      line = line;
      left = record { state = done line t.run; journal = tti_records line t };
      goes = refl;
      lines = lines-at ups downs c.terminals 0 user user fresh_terminal (omega arith) inside;
      records = records-at ups downs c.terminals 0 user user fresh_terminal (omega arith) inside;
      stepped_is = tti-steps (slice_index ups user) (slice_index downs user) t;
      run = ap (λ (x : Terminal). x.run) at;
      count = ap (λ (x : Terminal). x.lines) at;
    }))
goes-one user ups downs c c' es (inr out) e =
    let at = behind-none ups downs c.terminals 0 user fresh_terminal out in
    rw (← goes-state _ _ _ _ e, ← goes-entries _ _ _ _ e) (inl (record {
      lines = lines-above ups downs c.terminals 0 user user (omega arith) out;
      records = records-above ups downs c.terminals 0 user user (omega arith) out;
      run = ap (λ (x : Terminal). x.run) at;
      count = ap (λ (x : Terminal). x.lines) at;
    }))

pub inside-or-out : (a b : ℕ) → (a < b) ⊎ (b ≤ a)
inside-or-out a b =
    elim (nat_lt a b) as (λ t. nat_lt a b ≡ t → (a < b) ⊎ (b ≤ a)) [
      | true ↦ λ e. inl (grind (arith, e))
      | false ↦ λ e. inr (grind (arith, e))
    ] refl

pub missing-none : (c c' : CellState) (es : List Entry) (o : Outcome CellState Entry CellRule)
    → unless (missing c) o ≡ Goes c' es → o ≡ Goes c' es
missing-none c c' es o e =
    elim (has_none c) as (λ b. unless (if b then Some NoCell else None) o ≡ Goes c' es → o ≡ Goes c' es) [
      | true ↦ λ bad. cc
      | false ↦ λ goes. goes
    ] e

acted-one : (user : ℕ) (line : CellLine) (c c' : CellState) (es : List Entry) → acted line c ≡ Goes c' es
    → IsOne user c c' es
unfolding acted
acted-one user (lines.Cell users) c c' es e = founds-one user users c c' es e
acted-one user (lines.To u line) c c' es e =
    let there = known-there u c c' es (own_line u line c) e in own-line-one user u line c c' es there.0 there.1
acted-one user (lines.Air u up down) c c' es e =
    let there = known-there u c c' es (Goes (set_air u up down c) []) e in
    rw (← goes-state _ _ _ _ there.1, ← goes-entries _ _ _ _ there.1)
    (air-one user u up down c there.0 (same-or-other u user))
acted-one user (lines.Go up_total down_total) c c' es e =
    goes-one user (grants up_wish up_total c) (grants down_wish down_total c) c c' es
    (inside-or-out user (length c.terminals)) (missing-none c c' es (goes up_total down_total c) e)
acted-one user lines.End c c' es e = cc

read-one : (user : ℕ) (c c' : CellState) (line : Option CellLine) (es : List Entry)
    → read_by c (Ok line) ≡ Goes c' es → IsOne user c c' es
read-one user c c' None es e =
    rw (← goes-state _ _ _ _ e, ← goes-entries _ _ _ _ e)
    (inl (record { lines = refl; records = refl; run = refl; count = refl }))
read-one user c c' (Some line) es e = acted-one user line c c' es e

-- a line that is run
pub line-one : (user : ℕ) (c c' : CellState) (number : ℕ) (text : List ℕ) (es : List Entry)
    → cell_line c number text ≡ Goes c' es → IsOne user c c' es
line-one user c c' number text es e =
    elim (read_cell_of text) as (λ read. read_by c read ≡ Goes c' es → IsOne user c c' es) [
      | Err refusal ↦ λ bad. cc
      | Ok line ↦ λ goes. read-one user c c' line es goes
    ] e

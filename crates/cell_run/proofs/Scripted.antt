-- There are octets that say the lines of a terminal's own script.
use Rattle.std.proofs.Common.{◌≡◌, ◌≢◌, ◌⊎◌, ◌+◌, ◌-◌, ◌<◌, ◌≤◌, ◌==◌, ◌∙◌, ℕ, List, [], ◌∷◌, ◌++◌, refl}
use Rattle.std.proofs.Common.{ap, sym}
use Rattle.std.proofs.Common.{subst, inl, inr, arith, true, false, Bool, nat_lt, if◌then◌else◌, length, take}
use Rattle.std.proofs.Common.{replicate}
use Rattle.std.proofs.Common.{slice_index}
use Rattle.std.specs.Prelude.{Option, None, Some, Result, Ok, Err}
use Rattle.std.proofs.lemmas.List.{length-take}
use Rattle.l2_io.specs.Feeds.{without_return}
use Rattle.air_record.specs.declared.line.Line.{Line}
use Rattle.line_player.specs.Lines.{lines_ended, tail_of}
use Rattle.air_run.specs.Run.{Left}
use Rattle.air_run.specs.declared.refusal.RunRefusal.{RunRefusal}
use Rattle.air_text.specs.Fields.{number_of, outcome_of}
use Rattle.air_text.specs.Reading.{read_of, read_words}
use Rattle.air_text.specs.Words.{◌>>=◌, words_of}
use Rattle.air_text.specs.declared.fault.LineRefusal.{LineRefusal}
use Rattle.air_text.specs.declared.fault.LineRefusal.TheVariants.{Word, Long}
use Rattle.cell_sched.proofs.Sharing.{each_within}
use Rattle.cell_text.specs.Reading.{own_text, cell_of as cell_read, to_of, air_of, go_of, end_of, cell_line_of}
use Rattle.cell_text.specs.Reading.{read_cell_words, read_cell_of}
use Rattle.cell_text.specs.declared.line.CellLine.{CellLine}
use Rattle.cell_text.specs.declared.line.CellLine.TheVariants as lines
use Rattle.script_generator.specs.Lines.{Says, SayAll}
use Rattle.cell_run.specs.Alone.{some_line, own_lines, HasScript, AllHaveScripts}
use Rattle.cell_run.specs.Cells.{CellState, fresh_cell, cell, cell_line, read_by, acted, founds, own_line, is_own}
use Rattle.cell_run.specs.Cells.{placed}
use Rattle.cell_run.specs.Cells.{terminal_at, set_air, goes, grants, has_none}
use Rattle.cell_run.specs.Entries.{Entry}
use Rattle.line_player.specs.Journal.{Outcome, Goes, Ends, Refuses, onto, finished, refused, waiting, follow}
use Rattle.line_player.specs.Journal.{on_line}
use Rattle.line_player.specs.Journal.{on_last, close_by, play, journal_from}
use Rattle.cell_run.specs.Terminals.{Terminal, fresh_terminal, stepped, own_step, own_entry, up_wish}
use Rattle.cell_run.specs.Terminals.{down_wish}
use Rattle.cell_run.specs.declared.fault.CellRule.TheVariants as rules
use Rattle.line_player.specs.declared.reason.Reason.TheVariants as reasons
use Rattle.cell_run.specs.declared.fault.CellRefusal.TheVariants.{CellTwice, NotHere}
use Rattle.cell_run.proofs.AllAlone.{last-lines}
use Rattle.cell_run.proofs.Alone.{lines-both}
use Rattle.cell_run.proofs.Endings.{line-ends}
use Rattle.cell_run.proofs.Lines.{goes-entries, known-there, missing-none, entry-lines, other-lines}
use Rattle.cell_run.proofs.Lines.{same-or-other}
use Rattle.cell_run.proofs.Lines.{lines-at, lines-above, inside-or-out}
use Rattle.cell_run.proofs.Saying.{IsOneLine, one-without, own-says, AreLines, lines-one, tail-one}
use Rattle.cell_run.proofs.SayingTtis.{tti-says, grant-within}
use Rattle.cell_run.specs.Cells.{CellPlayed}
use Rattle.cell_run.specs.declared.fault.CellRule.{CellRule}

-- ---- what is read of a `to` line

err-other : (refusal : LineRefusal) (line : CellLine) → Err refusal ≡ Ok line → ⊥
err-other refusal line e = absurd (cc)

none-some : (read : Result (Option Line) LineRefusal) (x : Line) → read ≡ Ok None → read ≡ Ok (Some x) → ⊥
none-some read x none some = absurd (cc)

bind-some : (r : Result CellLine LineRefusal) (line : CellLine)
    → (r >>= λ x. Ok (Some x)) ≡ Ok (Some line) → r ≡ Ok line
bind-some (Ok x) line e = cc
bind-some (Err refusal) line e = cc

no-cell : (fields : List (List ℕ)) (user : ℕ) (line : Option Line) → cell_read fields ≡ Ok (lines.To user line) → ⊥
unfolding cell_read
no-cell [] user line e = absurd (cc)
no-cell (a ∷ []) user line e =
    elim (number_of 1 8 a) as (λ r. (r >>= λ n. Ok (lines.Cell n)) ≡ Ok (lines.To user line) → ⊥) [
      | Ok n ↦ λ bad. absurd (cc)
      | Err refusal ↦ λ bad. absurd (cc)
    ] e
no-cell (a ∷ b ∷ more) user line e = absurd (cc)

no-go : (fields : List (List ℕ)) (user : ℕ) (line : Option Line) → go_of fields ≡ Ok (lines.To user line) → ⊥
unfolding go_of
no-go [] user line e = absurd (cc)
no-go (a ∷ []) user line e = absurd (cc)
no-go (a ∷ b ∷ []) user line e =
    elim (number_of 0 75376 a) as (λ r. (r >>= λ ut. number_of 0 75376 b >>= λ dt. Ok (lines.Go ut dt))
    ≡ Ok (lines.To user line) → ⊥) [
      | Ok n ↦ λ bad.
          elim (number_of 0 75376 b) as (λ r. (r >>= λ dt. Ok (lines.Go n dt)) ≡ Ok (lines.To user line) → ⊥) [
            | Ok m ↦ λ worse. absurd (cc)
            | Err refusal ↦ λ worse. absurd (cc)
          ] bad
      | Err refusal ↦ λ bad. absurd (cc)
    ] e
no-go (a ∷ b ∷ c ∷ more) user line e = absurd (cc)

no-air : (fields : List (List ℕ)) (user : ℕ) (line : Option Line) → air_of fields ≡ Ok (lines.To user line) → ⊥
unfolding air_of
no-air [] user line e = absurd (cc)
no-air (a ∷ []) user line e = absurd (cc)
no-air (a ∷ b ∷ []) user line e = absurd (cc)
no-air (a ∷ b ∷ c ∷ []) user line e =
    elim (number_of 0 7 a) as (λ r.
    (r >>= λ n. outcome_of b >>= λ uo. outcome_of c >>= λ dout. Ok (lines.Air n uo dout))
    ≡ Ok (lines.To user line) → ⊥) [
      | Ok n ↦ λ bad.
          elim (outcome_of b) as (λ r. (r >>= λ uo. outcome_of c >>= λ dout. Ok (lines.Air n uo dout))
          ≡ Ok (lines.To user line) → ⊥) [
            | Ok up ↦ λ worse.
                elim (outcome_of c) as (λ r. (r >>= λ dout. Ok (lines.Air n up dout)) ≡ Ok (lines.To user line) → ⊥) [
                  | Ok down ↦ λ worst. absurd (cc)
                  | Err refusal ↦ λ worst. absurd (cc)
                ] worse
            | Err refusal ↦ λ worse. absurd (cc)
          ] bad
      | Err refusal ↦ λ bad. absurd (cc)
    ] e
no-air (a ∷ b ∷ c ∷ d ∷ more) user line e = absurd (cc)

no-end : (fields : List (List ℕ)) (user : ℕ) (line : Option Line) → end_of fields ≡ Ok (lines.To user line) → ⊥
unfolding end_of
no-end [] user line e = absurd (cc)
no-end (a ∷ more) user line e = absurd (cc)

own-read : (fields : List (List ℕ)) (own : List ℕ) (user : ℕ) (line : Option Line)
    → to_of fields own ≡ Ok (lines.To user line) → read_of own ≡ Ok line
unfolding to_of
own-read [] own user line e = cc
own-read (a ∷ more) own user line e =
    elim (number_of 0 7 a) as (λ r. (r >>= λ n. read_of own >>= λ x. Ok (lines.To n x)) ≡ Ok (lines.To user line)
    → read_of own ≡ Ok line) [
      | Ok n ↦ λ h.
          elim (read_of own) as (λ r. (r >>= λ x. Ok (lines.To n x)) ≡ Ok (lines.To user line) → r ≡ Ok line) [
            | Ok x ↦ λ is. cc
            | Err refusal ↦ λ bad. cc
          ] h
      | Err refusal ↦ λ bad. cc
    ] e

-- a choice of five, of which one alone gives a `to` line
choice : (a b c d e : Bool) (r s t u v w : Result CellLine LineRefusal) (x : CellLine) (G : Type 0)
    → (r ≡ Ok x → ⊥) → (s ≡ Ok x → G) → (t ≡ Ok x → ⊥) → (u ≡ Ok x → ⊥) → (v ≡ Ok x → ⊥) → (w ≡ Ok x → ⊥)
    → (if a then r else if b then s else if c then t else if d then u else if e then v else w) ≡ Ok x → G
choice true b c d e r s t u v w x G fr fs ft fu fv fw h = absurd (fr h)
choice false true c d e r s t u v w x G fr fs ft fu fv fw h = fs h
choice false false true d e r s t u v w x G fr fs ft fu fv fw h = absurd (ft h)
choice false false false true e r s t u v w x G fr fs ft fu fv fw h = absurd (fu h)
choice false false false false true r s t u v w x G fr fs ft fu fv fw h = absurd (fv h)
choice false false false false false r s t u v w x G fr fs ft fu fv fw h = absurd (fw h)

line-read : (first : List ℕ) (fields : List (List ℕ)) (own : List ℕ) (user : ℕ) (line : Option Line)
    → cell_line_of first fields own ≡ Ok (lines.To user line) → read_of own ≡ Ok line
line-read first fields own user line e =
    choice _ _ _ _ _ _ _ _ _ _ _ (lines.To user line) (read_of own ≡ Ok line)
    (no-cell fields user line) (own-read fields own user line) (no-air fields user line) (no-go fields user line)
    (no-end fields user line) (err-other Word (lines.To user line)) e

words-read : (words : List (List ℕ)) (own : List ℕ) (user : ℕ) (line : Option Line)
    → read_cell_words words own ≡ Ok (Some (lines.To user line)) → read_of own ≡ Ok line
unfolding read_cell_words
words-read [] own user line e = cc
words-read (first ∷ fields) own user line e =
    elim (slice_index first 0 == 35) as (λ b. (if b then Ok None
    else (cell_line_of first fields own >>= λ x. Ok (Some x))) ≡ Ok (Some (lines.To user line))
    → read_of own ≡ Ok line) [
      | true ↦ λ bad. cc
      | false ↦ λ h. line-read first fields own user line (bind-some (cell_line_of first fields own) _ h)
    ] e

to-read : (text : List ℕ) (user : ℕ) (line : Option Line) → read_cell_of text ≡ Ok (Some (lines.To user line))
    → read_of (own_text text) ≡ Ok line
unfolding read_cell_of
to-read text user line e =
    elim (nat_lt 20000 (length text)) as (λ b. (if b then Err Long else read_cell_words (words_of text) (own_text text))
    ≡ Ok (Some (lines.To user line)) → read_of (own_text text) ≡ Ok line) [
      | true ↦ λ bad. cc
      | false ↦ λ h. words-read (words_of text) (own_text text) user line h
    ] e

-- ---- each line of an own script is said

record SaysOne (user : ℕ) (es : List Entry) : Type 0 where
  line : Line
  text : List ℕ
  lines_are : own_lines user es ≡ line ∷ []
  says : Says text line

abbrev IsSaid : ℕ → List Entry → Type 0
IsSaid user es = (own_lines user es ≡ []) ⊎ SaysOne user es

nothing-said : (user : ℕ) (es : List Entry) → [] ≡ es → IsSaid user es
nothing-said user es is = inl (ap (own_lines user) (sym is))

own-said : (user u : ℕ) (line : Line) (text : List ℕ) (e : Entry) → e.user ≡ u → e.line ≡ Some line → Says text line
    → (u ≡ user) ⊎ (u ≢ user) → IsSaid user (e ∷ [])
own-said user u line text e at is says (inl same) =
    inr (record {
      line = line;
      text = text;
      lines_are = entry-lines user e (at ∙ same) ∙ ap some_line is;
      says = says;
    })
own-said user u line text e at is says (inr other) =
    inl (other-lines user e [] (λ bad. other (sym at ∙ bad)))

stepped-said : (user u : ℕ) (line : Line) (text : List ℕ) (t : Terminal) (c c' : CellState) (es : List Entry)
    (result : Result Left RunRefusal) → Says text line → placed u c (stepped u line t result) ≡ Goes c' es
    → IsSaid user es
stepped-said user u line text t c c' es (Err broken) says e = cc
stepped-said user u line text t c c' es (Ok left) says e =
    rw (← goes-entries _ _ _ _ e)
    (own-said user u line text (own_entry u line left.journal) refl refl says (same-or-other u user))

to-said : (user u : ℕ) (line : Option Line) (text : List ℕ) (c c' : CellState) (es : List Entry)
    → ((x : Line) → line ≡ Some x → Says text x) → own_line u line c ≡ Goes c' es → IsSaid user es
to-said user u None text c c' es says e = cc
to-said user u (Some line) text c c' es says e =
    elim (is_own line) as (λ b. (if b then placed u c (own_step u line (terminal_at u c))
    else Refuses (reasons.Rule (rules.Cell NotHere))) ≡ Goes c' es → IsSaid user es) [
      | true ↦ λ h. stepped-said user u line text (terminal_at u c) c c' es _ (says line refl) h
      | false ↦ λ bad. cc
    ] e

founds-nothing : (users : ℕ) (c c' : CellState) (es : List Entry) → founds users c ≡ Goes c' es → [] ≡ es
founds-nothing users c c' es e =
    elim (has_none c) as (λ b. (if b then Goes (record c { terminals = replicate users fresh_terminal }) []
    else Refuses (reasons.Rule (rules.Cell CellTwice)))
    ≡ Goes c' es → [] ≡ es) [
      | true ↦ λ h. goes-entries _ _ _ _ h
      | false ↦ λ bad. cc
    ] e

go-said : (user up_total down_total : ℕ) (c c' : CellState) (es : List Entry)
    → (user < length c.terminals) ⊎ (length c.terminals ≤ user) → goes up_total down_total c ≡ Goes c' es
    → IsSaid user es
go-said user up_total down_total c c' es (inl inside) e =
    let ups = grants up_wish up_total c in
    let downs = grants down_wish down_total c in
    let t = terminal_at user c in
    rw (← goes-entries _ _ _ _ e) (inr (record {
      line = _;
      text = _;
      lines_are = lines-at ups downs c.terminals 0 user user fresh_terminal (omega arith) inside;
      says = tti-says (slice_index ups user) t.up (slice_index downs user) t.down
          (grant-within ups user (each_within _ _ _ _)) (grant-within downs user (each_within _ _ _ _));
    }))
go-said user up_total down_total c c' es (inr out) e =
    rw (← goes-entries _ _ _ _ e)
    (inl (lines-above (grants up_wish up_total c) (grants down_wish down_total c) c.terminals 0 user user
    (omega arith) out))

acted-said : (user : ℕ) (line : CellLine) (text : List ℕ) (c c' : CellState) (es : List Entry)
    → ((u : ℕ) (own : Option Line) (x : Line) → line ≡ lines.To u own → own ≡ Some x → Says text x)
    → acted line c ≡ Goes c' es → IsSaid user es
unfolding acted
acted-said user (lines.Cell users) text c c' es says e = nothing-said user es (founds-nothing users c c' es e)
acted-said user (lines.To u line) text c c' es says e =
    let there = known-there u c c' es (own_line u line c) e in
    to-said user u line text c c' es (λ x is. says u line x refl is) there.1
acted-said user (lines.Air u up down) text c c' es says e =
    let there = known-there u c c' es (Goes (set_air u up down c) []) e in
    nothing-said user es (goes-entries _ _ _ _ there.1)
acted-said user (lines.Go up_total down_total) text c c' es says e =
    go-said user up_total down_total c c' es (inside-or-out user (length c.terminals))
    (missing-none c c' es (goes up_total down_total c) e)
acted-said user lines.End text c c' es says e = cc

read-said : (user : ℕ) (line : Option CellLine) (text : List ℕ) (c c' : CellState) (es : List Entry)
    → ((u : ℕ) (own : Option Line) (x : Line) → line ≡ Some (lines.To u own) → own ≡ Some x → Says text x)
    → read_by c (Ok line) ≡ Goes c' es → IsSaid user es
read-said user None text c c' es says e = nothing-said user es (goes-entries _ _ _ _ e)
read-said user (Some line) text c c' es says e =
    acted-said user line text c c' es (λ u own x is at. says u own x (ap Some is) at) e

nothing-read : read_of [] ≡ Ok None
unfolding read_of read_words
nothing-read = refl

own-some : (text : List ℕ) (x : Line) → read_of (own_text text) ≡ Ok (Some x) → 0 < length text
own-some [] x e = absurd (none-some (read_of []) x nothing-read e)
own-some (y ∷ ys) x e = omega arith

line-said : (user : ℕ) (c c' : CellState) (number : ℕ) (text : List ℕ) (es : List Entry)
    (read : Result (Option CellLine) LineRefusal) → IsOneLine text → length text ≤ 20000 → read_cell_of text ≡ read
    → read_by c read ≡ Goes c' es → IsSaid user es
line-said user c c' number text es (Err refusal) one few is e = cc
line-said user c c' number text es (Ok line) one few is e =
    read-said user line (own_text text ++ 32 ∷ []) c c' es
    (λ u own x to some.
    let read : read_of (own_text text) ≡ Ok (Some x) = to-read text u own (is ∙ ap Ok to) ∙ ap Ok some in
    own-says text x one (own-some text x read) few read) e

-- ---- all lines

said-onto : (user : ℕ) (es : List Entry) (later : CellPlayed) → IsSaid user es → HasScript user later
    → HasScript user (onto es later)
said-onto user es later (inl none) h =
    let same : own_lines user (es ++ later.journal) ≡ own_lines user later.journal =
    lines-both user es later.journal ∙ ap (λ (ls : List Line). ls ++ own_lines user later.journal) none in
    (h.0, subst (λ (ls : List Line). SayAll h.0 ls) (sym same) h.1)
said-onto user es later (inr one) h =
    let same : own_lines user (es ++ later.journal) ≡ one.line ∷ own_lines user later.journal =
    lines-both user es later.journal ∙ ap (λ (ls : List Line). ls ++ own_lines user later.journal) one.lines_are in
    let said : SayAll (one.text ++ 10 ∷ h.0) (one.line ∷ own_lines user later.journal) =
    (one.text, h.0, refl, one.says, h.1) in
    (one.text ++ 10 ∷ h.0, subst (λ (ls : List Line). SayAll (one.text ++ 10 ∷ h.0) ls) (sym same) said)

finished-said : (user : ℕ) (c : CellState) → HasScript user (finished cell c)
finished-said user c = ([], subst (λ (ls : List Line). SayAll [] ls) (sym (last-lines c.terminals 0 user)) refl)

follow-said : (user : ℕ) (c : CellState) (number : ℕ) (text : List ℕ) (o : Outcome CellState Entry CellRule)
    (next : CellState → CellPlayed)
    → cell_line c number text ≡ o → IsOneLine text → length text ≤ 20000
    → ((c' : CellState) → HasScript user (next c')) → HasScript user (follow cell number o next)
follow-said user c number text (Goes c' es) next is one few later =
    said-onto user es (next c') (line-said user c c' number text es (read_cell_of text) one few refl is) (later c')
follow-said user c number text (Ends c' es) next is one few later =
    let ended = line-ends c c' number text es is in rw (ended.state, ended.entries) (finished-said user c)
follow-said user c number text (Refuses reason) next is one few later = ([], refl)

tested-said : (user number : ℕ) (raw : List ℕ) (played : CellPlayed) → (length raw ≤ 20000 → HasScript user played)
    → HasScript user (if nat_lt 1000000 number then refused number reasons.Lines
    else if nat_lt 20000 (length raw) then refused number (reasons.Line Long) else played)
tested-said user number raw played h =
    elim (nat_lt 1000000 number) as (λ b. HasScript user (if b then refused number reasons.Lines
    else if nat_lt 20000 (length raw) then refused number (reasons.Line Long) else played)) [
      | true ↦ ([], refl)
      | false ↦
          elim (nat_lt 20000 (length raw)) as (λ b. nat_lt 20000 (length raw) ≡ b → HasScript user
          (if b then refused number (reasons.Line Long) else played)) [
            | true ↦ λ long. ([], refl)
            | false ↦ λ few. h (grind (arith, few))
          ] refl
    ]

without-length : (xs : List ℕ) → length (without_return xs) ≤ length xs
without-length xs =
    elim (slice_index xs (length xs - 1) == 13) as (λ b.
    length (if b then take (length xs - 1) xs else xs) ≤ length xs) [
      | true ↦ omega (arith, length-take (length xs - 1) xs)
      | false ↦ omega arith
    ]

line-has : (user : ℕ) (c : CellState) (number : ℕ) (raw : List ℕ) (next : CellState → CellPlayed) → IsOneLine raw
    → ((c' : CellState) → HasScript user (next c')) → HasScript user (on_line cell c number raw next)
unfolding on_line
line-has user c number raw next one later =
    tested-said user number raw (follow cell number (cell_line c number (without_return raw)) next)
    (λ few. follow-said user c number (without_return raw) _ next refl (one-without raw one)
    (omega (arith, without-length raw, few)) later)

last-has : (user : ℕ) (c : CellState) (number : ℕ) (raw : List ℕ) → IsOneLine raw
    → HasScript user (on_last cell c number raw)
unfolding on_last
last-has user c number raw one =
    tested-said user number raw (follow cell number (cell_line c number raw) (finished cell))
    (λ few. follow-said user c number raw _ (finished cell) refl one few (finished-said user))

close-has : (user : ℕ) (c : CellState) (number : ℕ) (whole : Bool) (tail : List ℕ) → IsOneLine tail
    → HasScript user (close_by cell whole tail c number)
unfolding close_by
close-has user c number true tail one =
    elim (length tail == 0) as (λ b. HasScript user (if b then finished cell c else on_last cell c number tail)) [
      | true ↦ finished-said user c
      | false ↦ last-has user c number tail one
    ]
close-has user c number false tail one =
    elim (length tail == 0) as (λ b. HasScript user
    (if b then waiting else if nat_lt 1000000 number then refused number reasons.Lines
    else if nat_lt 20000 (length tail) then refused number (reasons.Line Long) else waiting)) [
      | true ↦ ([], refl)
      | false ↦ tested-said user number tail waiting (λ few. ([], refl))
    ]

play-has : (user : ℕ) (whole : Bool) (tail : List ℕ) (raws : List (List ℕ)) (c : CellState) (number : ℕ) → AreLines raws
    → IsOneLine tail → HasScript user (play cell (close_by cell whole tail) c number raws)
unfolding play
play-has user whole tail [] c number ones one = close-has user c number whole tail one
play-has user whole tail (raw ∷ raws) c number ones one =
    line-has user c number raw (λ t. play cell (close_by cell whole tail) t (number + 1) raws) ones.0
    (λ c'. play-has user whole tail raws c' (number + 1) ones.1 one)

pub all-have : AllHaveScripts
unfolding journal_from
all-have whole octets user =
    play-has user whole (tail_of octets) (lines_ended octets) fresh_cell 1 (lines-one octets) (tail-one octets)

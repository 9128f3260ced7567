-- The lines of a cell's output that begin with a terminal's digit are its records.
use Rattle.std.proofs.Common.{◌≡◌, ◌≢◌, ◌⊎◌, ◌+◌, ◌==◌, ◌∙◌, ℕ, List, [], ◌∷◌, ◌++◌, refl, ap, sym, inl}
use Rattle.std.proofs.Common.{inr, arith}
use Rattle.std.proofs.Common.{true, false, map, flat_map, append_assoc, append-nil}
use Rattle.std.specs.Prelude.{codes}
use Rattle.std.specs.Fmt.{decimal}
use Rattle.std.proofs.lemmas.Bool.{eqb-true}
use Rattle.std.proofs.lemmas.Grind.{flat_map-append}
use Rattle.air_record.specs.Text.{worded, ended, record_words, line_words, text_of}
use Rattle.air_record.specs.Text.{texts_of as texts_of_records}
use Rattle.air_record.specs.declared.record.Record.{Record}
use Rattle.air_record.specs.declared.record.Record.TheVariants as records
use Rattle.line_player.specs.Lines.{lines_ended, onto_first}
use Rattle.cell_run.specs.Alone.{own_records, own_output, own_output_line, AllAreWritten}
use Rattle.cell_run.specs.Cells.{cell_of}
use Rattle.cell_run.specs.Entries.{Entry, labelled, texts_of}
use Rattle.cell_run.proofs.Lines.{same-or-other}
use Rattle.cell_run.proofs.Saying.{IsOneLine, one-more, AreLines, lines-one}
use Rattle.line_player.proofs.Cutting.{lines-text}

-- ---- texts that a line feed ends

record IsEnded (text : List ℕ) : Type 0 where
  before : List ℕ
  is : text ≡ before ++ 10 ∷ []

behind-ended : (a b : List ℕ) → IsEnded b → IsEnded (a ++ b)
behind-ended a b h = record {
  before = a ++ h.before;
  is = ap (λ (t : List ℕ). a ++ t) h.is ∙ sym (append_assoc a h.before (10 ∷ []));
}

ended-ends : (ws : List (List ℕ)) → IsEnded (ended ws)
ended-ends [] = record { before = []; is = refl }
ended-ends (w ∷ ws) = behind-ended (32 ∷ w) (ended ws) (ended-ends ws)

worded-ends : (ws : List (List ℕ)) → IsEnded (worded ws)
worded-ends [] = record { before = []; is = refl }
worded-ends (w ∷ ws) = behind-ended w (ended ws) (ended-ends ws)

record-ends : (one : Record) → IsEnded (text_of one)
record-ends (records.Line number line) =
    behind-ended (codes "line" ++ 32 ∷ []) (decimal number ++ (32 ∷ worded (line_words line)))
    (behind-ended (decimal number) (32 ∷ worded (line_words line))
    (behind-ended (32 ∷ []) (worded (line_words line)) (worded-ends (line_words line))))
record-ends (records.Tti tti) = worded-ends (record_words (records.Tti tti))
record-ends records.Sleep = worded-ends (record_words records.Sleep)
record-ends (records.Of side event) = worded-ends (record_words (records.Of side event))
record-ends (records.Block direction process is_new rv octets) =
    worded-ends (record_words (records.Block direction process is_new rv octets))
record-ends (records.Air direction what heard) = worded-ends (record_words (records.Air direction what heard))
record-ends (records.Refused side lcid why) = worded-ends (record_words (records.Refused side lcid why))
record-ends (records.Looped lcid octets) = worded-ends (record_words (records.Looped lcid octets))
record-ends (records.Drained rounds) = worded-ends (record_words (records.Drained rounds))
record-ends (records.Sum direction lcid submitted delivered state) =
    worded-ends (record_words (records.Sum direction lcid submitted delivered state))
record-ends records.MacFront = worded-ends (record_words records.MacFront)
record-ends (records.MacSdu lcid len) = worded-ends (record_words (records.MacSdu lcid len))
record-ends (records.MacPad octets) = worded-ends (record_words (records.MacPad octets))
record-ends (records.MacControl element) = worded-ends (record_words (records.MacControl element))
record-ends (records.RlcTm len) = worded-ends (record_words (records.RlcTm len))
record-ends (records.RlcUm sn fi lens) = worded-ends (record_words (records.RlcUm sn fi lens))
record-ends (records.RlcAm sn poll fi lens) = worded-ends (record_words (records.RlcAm sn poll fi lens))
record-ends (records.RlcSeg sn poll fi last so lens) =
    worded-ends (record_words (records.RlcSeg sn poll fi last so lens))
record-ends (records.RlcStatus ack nacks) = worded-ends (record_words (records.RlcStatus ack nacks))
record-ends (records.PdcpData sn len) = worded-ends (record_words (records.PdcpData sn len))
record-ends (records.PdcpSrb sn len tag) = worded-ends (record_words (records.PdcpSrb sn len tag))
record-ends (records.PdcpReport fms bitmap) = worded-ends (record_words (records.PdcpReport fms bitmap))
record-ends (records.Shown number direction len) = worded-ends (record_words (records.Shown number direction len))
record-ends (records.BadMac fault) = worded-ends (record_words (records.BadMac fault))
record-ends (records.BadRlc fault) = worded-ends (record_words (records.BadRlc fault))
record-ends (records.BadPdcp fault) = worded-ends (record_words (records.BadPdcp fault))

-- a text without octets, or one that a line feed ends
abbrev IsWhole : List ℕ → Type 0
IsWhole text = (text ≡ []) ⊎ IsEnded text

first-whole : (a b : List ℕ) → IsEnded a → IsWhole b → IsEnded (a ++ b)
first-whole a b h (inl none) = rw (none, append-nil a) h
first-whole a b h (inr more) = behind-ended a b more

texts-whole : (rs : List Record) → IsWhole (texts_of_records rs)
texts-whole [] = inl refl
texts-whole (one ∷ rs) = inr (first-whole (text_of one) (texts_of_records rs) (record-ends one) (texts-whole rs))

-- ---- its lines

-- a line with its line feed
abbrev fed : List ℕ → List ℕ
fed line = line ++ 10 ∷ []

record HasLine (text : List ℕ) : Type 0 where
  first : List ℕ
  more : List (List ℕ)
  is : lines_ended text ≡ first ∷ more
  fed_is : flat_map fed (lines_ended text) ≡ text

line-onto : (x : ℕ) (text : List ℕ) → (x == 10) ≡ false → HasLine text → HasLine (x ∷ text)
line-onto x text e h = record {
  first = x ∷ h.first;
  more = h.more;
  is = rw e (ap (onto_first x) h.is);
  fed_is = rw (e, h.is)
      (ap (λ (t : List ℕ). x ∷ t) (sym (ap (flat_map fed) h.is) ∙ h.fed_is));
}

line-feed : (x : ℕ) (text : List ℕ) → (x == 10) ≡ true → flat_map fed (lines_ended text) ≡ text → HasLine (x ∷ text)
line-feed x text e h = record {
  first = [];
  more = lines_ended text;
  is = rw e refl;
  fed_is = rw e (ap (λ (t : List ℕ). 10 ∷ t) h ∙ ap (λ (y : ℕ). y ∷ text) (sym (eqb-true x 10 e)));
}

has-line : (before : List ℕ) → HasLine (before ++ 10 ∷ [])
has-line [] = record { first = []; more = []; is = refl; fed_is = refl }
has-line (x ∷ before) =
    elim (x == 10) as (λ b. (x == 10) ≡ b → HasLine (x ∷ (before ++ 10 ∷ []))) [
      | true ↦ λ e. line-feed x (before ++ 10 ∷ []) e (has-line before).fed_is
      | false ↦ λ e. line-onto x (before ++ 10 ∷ []) e (has-line before)
    ] refl

whole-lines : (text : List ℕ) → IsWhole text → flat_map fed (lines_ended text) ≡ text
whole-lines text (inl none) = rw none refl
whole-lines text (inr h) = rw (h.is) (has-line h.before).fed_is

-- ---- lines behind a terminal's digit

abbrev label : ℕ → List ℕ → List ℕ
label user line = (48 + user) ∷ 32 ∷ line

label-one : (user : ℕ) (line : List ℕ) → IsOneLine line → IsOneLine (label user line)
label-one user line h =
    let digit : (48 + user == 10) ≡ false = grind arith in
    one-more (48 + user) (32 ∷ line) digit (one-more 32 line refl h)

labelled-lines : (user : ℕ) (ls : List (List ℕ)) (rest : List ℕ) → AreLines ls
    → lines_ended (flat_map (labelled user) ls ++ rest) ≡ map (label user) ls ++ lines_ended rest
labelled-lines user [] rest h = refl
labelled-lines user (line ∷ ls) rest h =
    ap lines_ended (append_assoc (labelled user line) (flat_map (labelled user) ls) rest
    ∙ append_assoc (label user line) (10 ∷ []) (flat_map (labelled user) ls ++ rest))
    ∙ lines-text (label user line) (flat_map (labelled user) ls ++ rest) (label-one user line h.0)
    ∙ ap (λ (more : List (List ℕ)). label user line ∷ more) (labelled-lines user ls rest h.1)

own-here : (user : ℕ) (ls : List (List ℕ)) → flat_map (own_output_line user) (map (label user) ls) ≡ flat_map fed ls
own-here user [] = refl
own-here user (line ∷ ls) =
    let same : (48 + user == 48 + user) ≡ true = grind arith in
    rw same (ap (λ (t : List ℕ). fed line ++ t) (own-here user ls))

own-other : (user u : ℕ) (ls : List (List ℕ)) → u ≢ user → flat_map (own_output_line user) (map (label u) ls) ≡ []
own-other user u [] other = refl
own-other user u (line ∷ ls) other =
    let apart : (48 + u == 48 + user) ≡ false = grind (arith, other) in
    rw apart (own-other user u ls other)

-- ---- the entries of a journal

written-by : (user : ℕ) (e : Entry) (es : List Entry) → (e.user ≡ user) ⊎ (e.user ≢ user)
    → flat_map (own_output_line user) (map (label e.user) (lines_ended (texts_of_records e.records)))
    ++ texts_of_records (own_records user es) ≡ texts_of_records (own_records user (e ∷ es))
written-by user e es (inl same) =
    let here : (e.user == user) ≡ true = grind (arith, same) in
    let ls = lines_ended (texts_of_records e.records) in
    let own : flat_map (own_output_line user) (map (label e.user) ls) ≡ texts_of_records e.records =
    ap (λ (n : ℕ). flat_map (own_output_line user) (map (label n) ls)) same ∙ own-here user ls
    ∙ whole-lines (texts_of_records e.records) (texts-whole e.records) in
    rw here (ap (λ (t : List ℕ). t ++ texts_of_records (own_records user es)) own
    ∙ sym (flat_map-append text_of e.records (own_records user es)))
written-by user e es (inr other) =
    let apart : (e.user == user) ≡ false = grind (arith, other) in
    rw (apart, own-other user e.user (lines_ended (texts_of_records e.records)) other) refl

entry-written : (user : ℕ) (e : Entry) (es : List Entry) → (e.user ≡ user) ⊎ (e.user ≢ user)
    → own_output user (texts_of es) ≡ texts_of_records (own_records user es)
    → own_output user (texts_of (e ∷ es)) ≡ texts_of_records (own_records user (e ∷ es))
entry-written user e es at h =
    let ls = lines_ended (texts_of_records e.records) in
    ap (flat_map (own_output_line user))
    (labelled-lines e.user ls (texts_of es) (lines-one (texts_of_records e.records)))
    ∙ flat_map-append (own_output_line user) (map (label e.user) ls) (lines_ended (texts_of es))
    ∙ ap (λ (t : List ℕ). flat_map (own_output_line user) (map (label e.user) ls) ++ t) h
    ∙ written-by user e es at

pub written : (user : ℕ) (es : List Entry) → own_output user (texts_of es) ≡ texts_of_records (own_records user es)
written user [] = refl
written user (e ∷ es) = entry-written user e es (same-or-other e.user user) (written user es)

pub all-written : AllAreWritten
all-written whole octets user = written user (cell_of whole octets).journal

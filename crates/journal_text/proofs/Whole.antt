-- A text and the record that it says.
use Rattle.std.proofs.Common.{◌≡◌, ◌<◌, ◌^◌, ◌∙◌, ℕ, List, [], ◌∷◌, ◌++◌, length, Option, Some, None, Ok, Err, Result}
use Rattle.std.proofs.Common.{◌-◌, suc, take, get_or, Bool, true, false, ◌&&◌, ◌==◌, codes, refl, sym, ap, subst}
use Rattle.std.proofs.Common.{arith, append_assoc, IfErr, IfOk}
use Rattle.std.proofs.lemmas.List.{append_cancel_left, append_cancel_right}
use Rattle.std.proofs.lemmas.Slice.Eq.{bytes_eq-Decides}
use Rattle.std.specs.Str.{bytes_eq}
use Rattle.std.specs.Fmt.{decimal}
use Rattle.air_record.specs.declared.line.Line.{Line as Lines}
use Rattle.air_record.specs.declared.line.Line.TheVariants as lines
use Rattle.air_record.specs.declared.record.Record.{Record}
use Rattle.air_record.specs.declared.record.Record.TheVariants.{Line}
use Rattle.air_record.specs.Text.{worded, ended, line_words, record_words, text_of, accepted_text}
use Rattle.air_text.specs.declared.fault.LineRefusal.{LineRefusal}
use Rattle.air_text.specs.Reading.{read_of}
use Rattle.journal_text.specs.declared.fault.TextFault.{TextFault}
use Rattle.journal_text.specs.declared.fault.TextFault.TheVariants.{NotARecord, NoMemory}
use Rattle.journal_text.specs.Answers.{Gives}
use Rattle.journal_text.specs.Pieces.{before, behind, pieces}
use Rattle.journal_text.specs.Reading.{line_in, line_of, words_of, read_text}
use Rattle.journal_text.specs.Records.{IsOwnLine, HasText, IsSaid}
use Rattle.journal_text.proofs.Cuts.{are_free, joined_by, worded-joined, pieces-joined, pieces_split}
use Rattle.journal_text.proofs.Cuts.{before-rest}
use Rattle.journal_text.proofs.Numbers.{number-back, number-free}
use Rattle.journal_text.proofs.Many.{too_many}
use Rattle.journal_text.proofs.Plain.{IsPlain, Begins, plain-back, plain-free, plain-begins}

-- ---- the text of a record's words

some-words : (line : Lines) → 0 < length (line_words line)
some-words (lines.Bearer config []) = omega arith
some-words (lines.Bearer config (x ∷ xs)) = omega arith
some-words line = omega arith

ended-worded : (w : List ℕ) (ws : List (List ℕ)) → 0 < length ws → w ++ (32 ∷ worded ws) ≡ w ++ ended ws
ended-worded w [] some = absurd (omega (arith, some))
ended-worded w (v ∷ ws) some = refl

pub worded-text : (one : Record) → text_of one ≡ worded (record_words one)
worded-text (Line number line) =
    ap (λ (r : List ℕ). codes "line" ++ (32 ∷ r)) (ended-worded (decimal number) (line_words line) (some-words line))
worded-text one = refl

one-said : (text : List ℕ) (words : List (List ℕ)) (one : Record) → worded words ≡ text ++ 10 ∷ [] → IsSaid words one
    → HasText text one
one-said text words one whole said = (said.0, worded-text one ∙ ap worded said.1 ∙ whole)

-- ---- a text and its line feed

and-none : (b : Bool) → (b && false) ≡ false
and-none true = refl
and-none false = refl

and-swap : (a b c : Bool) → (a && (b && c)) ≡ (b && (a && c))
and-swap true b c = refl
and-swap false true c = refl
and-swap false false c = refl

pub ended_is : (front text : List ℕ) (last : ℕ)
    → bytes_eq (front ++ last ∷ []) (text ++ 10 ∷ []) ≡ (last == 10 && bytes_eq front text)
ended_is [] [] last = refl
ended_is [] (y ∷ []) last = and-none (last == y) ∙ sym (and-none (last == 10))
ended_is [] (y ∷ z ∷ zs) last = and-none (last == y) ∙ sym (and-none (last == 10))
ended_is (x ∷ []) [] last = and-none (x == 10) ∙ sym (and-none (last == 10))
ended_is (x ∷ w ∷ ws) [] last = and-none (x == 10) ∙ sym (and-none (last == 10))
ended_is (x ∷ xs) (y ∷ ys) last =
    ap (λ b. x == y && b) (ended_is xs ys last) ∙ and-swap (x == y) (last == 10) (bytes_eq xs ys)

front-last : (xs : List ℕ) → 0 < length xs → take (length xs - 1) xs ++ get_or xs (length xs - 1) 0 ∷ [] ≡ xs
front-last [] some = absurd (omega (arith, some))
front-last (x ∷ []) some = refl
front-last (x ∷ y ∷ ys) some =
    let e : length (x ∷ y ∷ ys) - 1 ≡ suc (length (y ∷ ys) - 1) = omega arith in
    rw e (ap (λ (r : List ℕ). x ∷ r) (front-last (y ∷ ys) (omega arith)))

pub ended_parts : (xs text : List ℕ) → 0 < length xs
    → bytes_eq xs (text ++ 10 ∷ []) ≡ (get_or xs (length xs - 1) 0 == 10 && bytes_eq (take (length xs - 1) xs) text)
ended_parts xs text some =
    ap (λ (t : List ℕ). bytes_eq t (text ++ 10 ∷ [])) (sym (front-last xs some))
    ∙ ended_is (take (length xs - 1) xs) text (get_or xs (length xs - 1) 0)

-- a text of no octets has no line feed
pub never_ended : (text : List ℕ) → bytes_eq [] (text ++ 10 ∷ []) ≡ false
never_ended [] = refl
never_ended (x ∷ xs) = refl

-- ---- the record of a line

in-line : List ℕ → List ℕ → List ℕ
in-line number script = codes "line" ++ (32 ∷ (number ++ (32 ∷ script)))

more-behind : (number script more : List ℕ)
    → (codes "line" ++ (32 ∷ (number ++ (32 ∷ script)))) ++ more
    ≡ codes "line" ++ (32 ∷ (number ++ (32 ∷ (script ++ more))))
more-behind number script more =
    ap (λ (r : List ℕ). codes "line" ++ (32 ∷ r)) (append_assoc number (32 ∷ script) more)

line-read : (read : Result (Option Lines) LineRefusal) (line : Lines) → line_in read ≡ Ok line → read ≡ Ok (Some line)
line-read (Ok (Some other)) line h = let same : other ≡ line = cc in ap (λ (l : Lines). Ok (Some l)) same
line-read (Ok None) line h = cc
line-read (Err e) line h = cc

pub own_line : (text place script : List ℕ) (number : ℕ) (line : Lines)
    → codes "line" ++ (32 ∷ (place ++ (32 ∷ script))) ≡ text → decimal number ≡ place → number < 2 ^ 32
    → line_in (read_of script) ≡ Ok line
    → bytes_eq (text_of (Line number line)) (text ++ 10 ∷ []) ≡ true → HasText text (Line number line)
own_line text place script number line whole is small read same =
    let printed : accepted_text number line ≡ text ++ 10 ∷ [] = (bytes_eq-Decides _ _).0 same in
    let moved = printed ∙ ap (λ (t : List ℕ). t ++ 10 ∷ []) (sym whole)
    ∙ more-behind place script (10 ∷ [])
    ∙ ap (λ (p : List ℕ). codes "line" ++ (32 ∷ (p ++ (32 ∷ (script ++ 10 ∷ []))))) (sym is) in
    let front = append_cancel_left (codes "line" ++ 32 ∷ []) (decimal number ++ (32 ∷ worded (line_words line)))
    (decimal number ++ (32 ∷ (script ++ 10 ∷ []))) moved in
    let back = append_cancel_left (decimal number) (32 ∷ worded (line_words line)) (32 ∷ (script ++ 10 ∷ [])) front in
    let own : IsOwnLine line = record {
      text = script;
      printed = append_cancel_left (32 ∷ []) (worded (line_words line)) (script ++ 10 ∷ []) back;
      read = line-read (read_of script) line read;
    } in
    ((small, own), printed)

-- ---- a record's text is read

plain-read : (text : List ℕ) (words : List (List ℕ)) (one : Record) → pieces 32 text ≡ words → Begins words
    → words_of words ≡ Ok one → read_text text ≡ Ok one
unfolding read_text
plain-read text words one e begins h =
    let first : bytes_eq (before 32 text) (codes "line") ≡ false =
    subst Begins (sym e ∙ pieces_split 32 text) begins in
    rw first (ap words_of e ∙ h)

words-cut : (text : List ℕ) (words : List (List ℕ)) → Begins words → are_free 32 words ≡ true
    → worded words ≡ text ++ 10 ∷ [] → pieces 32 text ≡ words
words-cut text [] begins free h = absurd begins
words-cut text (w ∷ ws) begins free h =
    let joined : joined_by 32 (w ∷ ws) ≡ text =
    append_cancel_right (joined_by 32 (w ∷ ws)) text (10 ∷ []) (sym (worded-joined (w ∷ ws)) ∙ h) in
    ap (pieces 32) (sym joined) ∙ pieces-joined 32 w ws refl free

read-plain : (text : List ℕ) (one : Record) → IsPlain one → text_of one ≡ text ++ 10 ∷ [] → read_text text ≡ Ok one
read-plain text one good h =
    let begins = plain-begins one good in
    let cut = words-cut text (record_words one) begins (plain-free one good) (sym (worded-text one) ∙ h) in
    plain-read text (record_words one) one cut begins (plain-back one good)

read-line : (text : List ℕ) (number : ℕ) (line : Lines) → number < 2 ^ 32 → IsOwnLine line
    → accepted_text number line ≡ text ++ 10 ∷ [] → read_text text ≡ Ok (Line number line)
unfolding read_text line_of
read-line text number line small own h =
    let script = own.text in
    let rest = decimal number ++ (32 ∷ script) in
    let whole : (codes "line" ++ (32 ∷ rest)) ++ 10 ∷ [] ≡ accepted_text number line =
    more-behind (decimal number) script (10 ∷ [])
    ∙ ap (λ (r : List ℕ). codes "line" ++ (32 ∷ (decimal number ++ (32 ∷ r)))) (sym own.printed) in
    let is : codes "line" ++ (32 ∷ rest) ≡ text =
    append_cancel_right (codes "line" ++ (32 ∷ rest)) text (10 ∷ []) (whole ∙ h) in
    let p = before-rest 32 (codes "line") rest refl refl in
    let q = before-rest 32 (decimal number) script (number-free number small) refl in
    let first : before 32 text ≡ codes "line" = ap (before 32) (sym is) ∙ p.0 in
    let second : behind 32 text ≡ Some rest = ap (behind 32) (sym is) ∙ p.1 in
    let same : bytes_eq (text_of (Line number line)) (text ++ 10 ∷ []) ≡ true =
    (bytes_eq-Decides (text_of (Line number line)) (text ++ 10 ∷ [])).1 h in
    rw (first, second, q.0, q.1, number-back number small, own.read, same) refl

pub complete : (text : List ℕ) (one : Record) → HasText text one → read_text text ≡ Ok one
complete text (Line number line) h = read-line text number line h.0.0 h.0.1 h.1
complete text one h = read-plain text one h.0 h.1

pub one_of : (text : List ℕ) (one other : Record) → HasText text one → HasText text other → one ≡ other
one_of text one other h g = let same = sym (complete text one h) ∙ complete text other g in cc

-- more words than any record has
pub many_none : (text : List ℕ) → bytes_eq (before 32 text) (codes "line") ≡ false → 8 < length (pieces 32 text)
    → (one : Record) → HasText text one → ⊥
unfolding read_text
many_none text other many one h =
    let read : read_text text ≡ words_of (pieces 32 text) = rw other refl in
    let clash = sym (complete text one h) ∙ read ∙ too_many (pieces 32 text) many in
    cc

pub none_of : (result : Result Record TextFault) (text : List ℕ) → Gives result (read_text text)
    → IfErr result (λ fault. fault ≡ NotARecord → (one : Record) → HasText text one → ⊥)
none_of (Ok one) text gives = tt
none_of (Err NoMemory) text gives = λ e. cc
none_of (Err NotARecord) text gives = λ e one h. let read = sym (complete text one h) ∙ gives in cc

-- ---- a record's words

pub said_text : (result : Result Record TextFault) (text : List ℕ) (words : List (List ℕ))
    → worded words ≡ text ++ 10 ∷ [] → IfOk result (IsSaid words) → IfOk result (HasText text)
said_text (Ok one) text words whole said = one-said text words one whole said
said_text (Err e) text words is said = tt

pub words_read : (result : Result Record TextFault) (text : List ℕ) (words : List (List ℕ))
    → bytes_eq (before 32 text) (codes "line") ≡ false → words ≡ pieces 32 text → Gives result (words_of words)
    → Gives result (read_text text)
unfolding read_text
words_read result text words other e gives =
    let same : read_text text ≡ words_of words = rw other (ap words_of (sym e)) in
    subst (λ (r : Result Record TextFault). Gives result r) (sym same) gives

-- Parts of a journal, one after another.
use Rattle.std.proofs.Common.{◌≡◌, ◌∙◌, Bool, false, ℕ, List, [], ◌++◌, refl, ap, sym, append_assoc}
use Rattle.std.specs.Prelude.{Option, Some, flat_map}
use Rattle.std.proofs.lemmas.Grind.{flat_map-append}
use Rattle.l2_io.specs.Known.{before, after}
use Rattle.l2_io.proofs.Written.{after_after}
use Rattle.l2_io.proofs.Reading.{before-before, before-nothing}
use Rattle.line_player.specs.Streams.{WritesFront}
use Rattle.line_player.specs.declared.ending.Ending.{Ending}
use Rattle.line_player.specs.declared.ending.Ending.TheVariants as endings
use Rattle.line_player.specs.Journal.{Player, Played, onto, finished, journal_from, journal_by}
use Rattle.line_player.specs.Plays.{state_of, Plays, HasPlayed, GoesOn, IsOver}
use Rattle.line_player.proofs.Turning.{onwards}
use Rattle.line_player.proofs.Nothing.{after_none, front_none}

-- a part and what was written after it
pub texts-onto : {E : Type 0} (text_of : E → List ℕ) (part later : List E) (w w' w'' : Option (List ℕ)) → w' ≡ after w
    (flat_map text_of part)
    → w'' ≡ after w' (flat_map text_of later)
    → w'' ≡ after w (flat_map text_of (part ++ later))
texts-onto text_of part later w w' w'' first second =
    second ∙ ap (λ v. after v (flat_map text_of later)) first ∙ after_after (flat_map text_of part)
    (flat_map text_of later) w
    ∙ ap (after w) (sym (flat_map-append _ part later))

pub front-after : {E R : Type 0} (text_of : E → List ℕ) (part : List E) (later : Played E R)
    (w w' w'' : Option (List ℕ)) → w' ≡ after w (flat_map text_of part)
    → WritesFront (flat_map text_of later.journal) w' w''
    → WritesFront (flat_map text_of (onto part later).journal) w w''
front-after text_of part later w w' w'' first second = record {
  front = flat_map text_of part ++ second.front;
  is_front = record {
    rest = second.is_front.rest;
    joined = flat_map-append _ part later.journal ∙ ap (λ t. flat_map text_of part ++ t) second.is_front.joined
        ∙ sym (append_assoc (flat_map text_of part) second.front second.is_front.rest);
  };
  written_is = second.written_is ∙ ap (λ v. after v second.front) first ∙ after_after
      (flat_map text_of part) second.front w;
}

pub plays-onto : {E R : Type 0} (text_of : E → List ℕ) (part : List E) (later : Played E R)
    (w w' w'' : Option (List ℕ)) (in_fault out_fault : Type 0)
    (ending : Ending R)
    → w' ≡ after w (flat_map text_of part) → Plays text_of later w' w'' in_fault out_fault ending
    → Plays text_of (onto part later) w w'' in_fault out_fault ending
plays-onto text_of part later w w' w'' in_fault out_fault endings.Done first p =
    (p.0, texts-onto _ part later.journal w w' w'' first p.1)
plays-onto text_of part later w w' w'' in_fault out_fault (endings.Refused number reason) first p =
    (p.0, texts-onto _ part later.journal w w' w'' first p.1)
plays-onto text_of part later w w' w'' in_fault out_fault endings.ReadFault first p =
    (p.0, texts-onto _ part later.journal w w' w'' first p.1, p.2)
plays-onto text_of part later w w' w'' in_fault out_fault endings.WriteFault first p =
    (front-after _ part later w w' w'' first p.0, p.1)
plays-onto text_of part later w w' w'' in_fault out_fault endings.NoMemory first p =
    front-after _ part later w w' w'' first p

pub plays-by : {E R : Type 0} (text_of : E → List ℕ) (played : Played E R) (w w' : Option (List ℕ))
    (in_fault out_fault in_fault' out_fault' : Type 0)
    (ending : Ending R)
    → (in_fault → in_fault') → (out_fault → out_fault') → Plays text_of played w w' in_fault out_fault ending
    → Plays text_of played w w' in_fault' out_fault' ending
plays-by text_of played w w' i o i' o' endings.Done f g p = p
plays-by text_of played w w' i o i' o' (endings.Refused number reason) f g p = p
plays-by text_of played w w' i o i' o' endings.ReadFault f g p = (p.0, p.1, f p.2)
plays-by text_of played w w' i o i' o' endings.WriteFault f g p = (p.0, g p.1)
plays-by text_of played w w' i o i' o' endings.NoMemory f g p = p

-- before the first line
pub begins : {S E R : Type 0} {text_of : E → List ℕ} (m : Player S E R) (left written : Option (List ℕ))
    → GoesOn text_of m (journal_by m) left left written written (Some m.first) 1 []
begins m left written = record {
  given = [];
  left_is = sym (before-nothing left);
  part = [];
  written_is = after_none written;
  state = m.first;
  run_is = refl;
  rest = λ whole more. refl;
}

gave-on : (a b : List ℕ) (l0 l1 l2 : Option (List ℕ)) → l0 ≡ before a l1 → l1 ≡ before b l2 → l0 ≡ before (a ++ b) l2
gave-on a b l0 l1 l2 first second = first ∙ ap (before a) second ∙ before-before a b l2

-- the state that a run has
same-state : {S E R : Type 0} (m : Player S E R) (run : Option S) (s : S) → run ≡ Some s → state_of m run ≡ s
same-state m run s is = ap (state_of m) is

pub goes-on : {S E R : Type 0} {text_of : E → List ℕ} (m : Player S E R) (journal : Bool → List ℕ
    → Played E R) (l0 l1 l2 w0 w1 w2 : Option (List ℕ)) (run run' : Option S) (n n' : ℕ) (kept kept' : List ℕ)
    → GoesOn text_of m journal l0 l1 w0 w1 run n kept → GoesOn text_of m
    (onwards m (state_of m run) n kept) l1 l2 w1 w2 run' n' kept'
    → GoesOn text_of m journal l0 l2 w0 w2 run' n' kept'
goes-on {E} {R} m journal l0 l1 l2 w0 w1 w2 run run' n n' kept kept' a b = record {
  given = a.given ++ b.given;
  left_is = gave-on a.given b.given l0 l1 l2 a.left_is b.left_is;
  part = a.part ++ b.part;
  written_is = texts-onto _ a.part b.part w0 w1 w2 a.written_is b.written_is;
  state = b.state;
  run_is = b.run_is;
  rest = λ whole more.
      ap (journal whole) (append_assoc a.given b.given more)
      ∙ a.rest whole (b.given ++ more)
      ∙ ap (λ s. onto a.part (journal_from m whole s n (kept ++ (b.given ++ more))))
      (sym (same-state m run a.state a.run_is))
      ∙ ap (onto a.part) (b.rest whole more)
      ∙ ap (λ j. let p : Played E R =
      record { journal = j; close = (journal_from m whole b.state n' (kept' ++ more)).close } in
      p) (sym (append_assoc a.part b.part _));
}

-- what a journal has after a part, where no more octets come
then-all : {S E R : Type 0} {text_of : E → List ℕ} (m : Player S E R) (journal : Bool → List ℕ
    → Played E R) (l0 l1 w0 w1 : Option (List ℕ)) (run : Option S) (n : ℕ) (kept : List ℕ)
    (a : GoesOn text_of m journal l0 l1 w0 w1 run n kept) (whole : Bool) (given : List ℕ)
    → journal whole (a.given ++ given) ≡ onto a.part (onwards m (state_of m run) n kept whole given)
then-all m journal l0 l1 w0 w1 run n kept a whole given =
    a.rest whole given ∙ ap (λ s. onto a.part (journal_from m whole s n (kept ++ given)))
    (sym (same-state m run a.state a.run_is))

pub goes-over : {S E R : Type 0} {text_of : E → List ℕ} (m : Player S E R) (journal : Bool → List ℕ
    → Played E R) (l0 l1 l2 w0 w1 w2 : Option (List ℕ)) (run run' : Option S) (n : ℕ) (kept : List ℕ)
    → GoesOn text_of m journal l0 l1 w0 w1 run n kept → IsOver text_of m
    (onwards m (state_of m run) n kept) l1 l2 w1 w2 run'
    → IsOver text_of m journal l0 l2 w0 w2 run'
goes-over {E} {R} m journal l0 l1 l2 w0 w1 w2 run run' n kept a b = record {
  given = a.given ++ b.given;
  left_is = gave-on a.given b.given l0 l1 l2 a.left_is b.left_is;
  whole = b.whole;
  end = b.end;
  part = a.part ++ b.part;
  written_is = texts-onto _ a.part b.part w0 w1 w2 a.written_is b.written_is;
  state = b.state;
  run_is = b.run_is;
  rest = then-all m journal l0 l1 w0 w1 run n kept a b.whole b.given
      ∙ ap (onto a.part) b.rest
      ∙ ap (λ j. let p : Played E R = record { journal = j; close = (finished m b.state).close } in
      p) (sym (append_assoc a.part b.part _));
}

pub goes-played : {S E R : Type 0} {text_of : E → List ℕ} (m : Player S E R) (journal : Bool → List ℕ
    → Played E R) (l0 l1 l2 w0 w1 w2 : Option (List ℕ)) (run : Option S) (n : ℕ) (kept : List ℕ) (i o i' o' : Type 0)
    (ending : Ending R)
    → GoesOn text_of m journal l0 l1 w0 w1 run n kept → (i → i') → (o → o')
    → HasPlayed text_of (onwards m (state_of m run) n kept) l1 l2 w1 w2 i o ending
    → HasPlayed text_of journal l0 l2 w0 w2 i' o' ending
goes-played m journal l0 l1 l2 w0 w1 w2 run n kept i o i' o' ending a f g b = record {
  given = a.given ++ b.given;
  left_is = gave-on a.given b.given l0 l1 l2 a.left_is b.left_is;
  whole = b.whole;
  end = b.end;
  plays = rw (then-all m journal l0 l1 w0 w1 run n kept a b.whole b.given)
      (plays-onto _ a.part (onwards m (state_of m run) n kept b.whole b.given) w0 w1 w2 i' o' ending a.written_is
      (plays-by _ (onwards m (state_of m run) n kept b.whole b.given) w1 w2 i o i' o' ending f g b.plays));
}

pub over-played : {S E R : Type 0} {text_of : E → List ℕ} (m : Player S E R) (journal : Bool → List ℕ
    → Played E R) (l0 l1 w0 w1 w2 : Option (List ℕ)) (run : Option S) (i o o' : Type 0) (ending : Ending R)
    → IsOver text_of m journal l0 l1 w0 w1 run → (o → o') → Plays text_of (finished m (state_of m run)) w1 w2 ⊥ o ending
    → HasPlayed text_of journal l0 l1 w0 w2 i o' ending
over-played m journal l0 l1 w0 w1 w2 run i o o' ending a g p = record {
  given = a.given;
  left_is = a.left_is;
  whole = a.whole;
  end = a.end;
  plays = rw (a.rest ∙ ap (λ s. onto a.part (finished m s)) (sym (same-state m run a.state a.run_is)))
      (plays-onto _ a.part (finished m (state_of m run)) w0 w1 w2 i o' ending a.written_is
      (plays-by _ (finished m (state_of m run)) w1 w2 ⊥ o i o' ending (λ bad. absurd bad) g p));
}

-- nothing was played
pub unplayed : {E R : Type 0} {text_of : E → List ℕ} (journal : Bool → List ℕ → Played E R)
    (left written : Option (List ℕ)) (i o : Type 0)
    → HasPlayed text_of journal left left written written i o endings.NoMemory
unplayed {text_of} journal left written i o = record {
  given = [];
  left_is = sym (before-nothing left);
  whole = false;
  end = λ e. cc;
  plays = front_none (flat_map text_of (journal false []).journal) written;
}

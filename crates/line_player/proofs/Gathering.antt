-- What is gathered and what is written of a journal.
use Rattle.std.proofs.Common.{◌≡◌, ◌∙◌, Bool, false, ℕ, List, [], ◌++◌, ap, sym, arith, inl, inr, append-nil}
use Rattle.std.proofs.Common.{append_assoc}
use Rattle.std.specs.Prelude.{Option, Some, Err, flat_map}
use Rattle.std.proofs.lemmas.Grind.{flat_map-append}
use Rattle.l2_io.specs.Known.{after, IsFront, HasRisen}
use Rattle.l2_io.proofs.Written.{after_after}
use Rattle.l2_io.specs.declared.sink.PutFault.{PutFault}
use Rattle.l2_io.specs.declared.sink.PutFault.TheVariants.{Failed, NoMemory}
use Rattle.line_player.specs.Streams.{WritesFront}
use Rattle.line_player.specs.Journal.{Player, Played, onto, finished, journal_from, journal_by}
use Rattle.line_player.specs.declared.ending.Ending.{Ending}
use Rattle.line_player.specs.declared.ending.Ending.TheVariants as endings
use Rattle.line_player.specs.Plays.{state_of, Plays, HasPlayed, GoesOn, IsOver, HasGathered, IsGathered, PutsRest}
use Rattle.line_player.specs.Plays.{PutsSome}
use Rattle.line_player.proofs.Turning.{onwards}
use Rattle.line_player.proofs.Nothing.{after_none}
use Rattle.line_player.proofs.Parting.{begins, goes-on, goes-over, goes-played, over-played}

-- the octets that a known text is
same-octets : (a b : List ℕ) → Some a ≡ after (Some []) b → a ≡ b
same-octets a b e = cc

-- what follows what a sink held follows what was written before, too
moved : (done a b : List ℕ) (text : List ℕ) → Some b ≡ after (Some a) text
    → Some (done ++ b) ≡ after (Some (done ++ a)) text
moved done a b text e = let same : b ≡ a ++ text = cc in
    ap (λ t. Some (done ++ t)) same ∙ ap Some (sym (append_assoc done a text))

moved-front : (done a b : List ℕ) (text : List ℕ) → WritesFront text (Some a) (Some b)
    → WritesFront text (Some (done ++ a)) (Some (done ++ b))
moved-front done a b text w =
    record { front = w.front; is_front = w.is_front; written_is = moved done a b w.front w.written_is }

moved-plays : {E R : Type 0} (text_of : E → List ℕ) (done a b : List ℕ) (played : Played E R) (i o : Type 0)
    (ending : Ending R)
    → Plays text_of played (Some a) (Some b) i o ending → Plays text_of played (Some (done ++ a))
    (Some (done ++ b)) i o ending
moved-plays text_of done a b played i o endings.Done p = (p.0, moved done a b _ p.1)
moved-plays text_of done a b played i o (endings.Refused number reason) p = (p.0, moved done a b _ p.1)
moved-plays text_of done a b played i o endings.ReadFault p = (p.0, moved done a b _ p.1, p.2)
moved-plays text_of done a b played i o endings.WriteFault p = (moved-front done a b _ p.0, p.1)
moved-plays text_of done a b played i o endings.NoMemory p = moved-front done a b _ p

-- before the first line
pub gathers-first : {S E R : Type 0} {text_of : E → List ℕ} (m : Player S E R) (left written : Option (List ℕ))
    → HasGathered text_of m (journal_by m) left left written written [] (Some m.first) 1 []
gathers-first m left written = record { done = []; written_is = after_none written; goes = begins m left (Some []) }

-- a front of what was gathered was put, and the rest is still held
pub gathers-put : {S E R : Type 0} {text_of : E → List ℕ} (m : Player S E R) (journal : Bool → List ℕ
    → Played E R) (left left' w w' w'' : Option (List ℕ)) (held front held' : List ℕ) (run : Option S) (number : ℕ)
    (kept : List ℕ)
    → HasGathered text_of m journal left left' w w' held run number kept → held ≡ front ++ held' → w'' ≡ after w' front
    → HasGathered text_of m journal left left' w w'' held' run number kept
gathers-put m journal left left' w w' w'' held front held' run number kept g is put = record {
  done = g.done ++ front;
  written_is = put ∙ ap (λ v. after v front) g.written_is ∙ after_after g.done front w;
  goes = rw (append_assoc g.done front held', ← is) g.goes;
}

-- a front of what was gathered was put
front-put : (done held text all : List ℕ) (w w' w'' : Option (List ℕ)) → w' ≡ after w done
    → IsFront (done ++ held) all → WritesFront held w' w'' → WritesFront all w w''
front-put done held text all w w' w'' first whole put = record {
  front = done ++ put.front;
  is_front = record {
    rest = put.is_front.rest ++ whole.rest;
    joined = whole.joined ∙ ap (λ t. (done ++ t) ++ whole.rest) put.is_front.joined
        ∙ ap (λ t. t ++ whole.rest) (sym (append_assoc done put.front put.is_front.rest))
        ∙ append_assoc (done ++ put.front) put.is_front.rest whole.rest;
  };
  written_is = put.written_is ∙ ap (λ v. after v put.front) first ∙ after_after done put.front w;
}

-- the journal so far begins the journal of what was given
gathered-front : {S E R : Type 0} {text_of : E → List ℕ} (m : Player S E R) (journal : Bool → List ℕ
    → Played E R) (left left' : Option (List ℕ)) (text : List ℕ) (run : Option S) (number : ℕ) (kept : List ℕ)
    (g : GoesOn text_of m journal left left' (Some []) (Some text) run number kept)
    → IsFront text (flat_map text_of (journal false g.given).journal)
gathered-front {E} {R} {text_of} m journal left left' text run number kept g =
    let all : journal false g.given ≡ onto g.part (journal_from m false g.state number (kept ++ [])) =
    ap (journal false) (sym (append-nil g.given)) ∙ g.rest false [] in
    record {
      rest = flat_map text_of (journal_from m false g.state number (kept ++ [])).journal;
      joined = ap (λ (p : Played E R). flat_map text_of p.journal) all ∙ flat_map-append _ g.part _
          ∙ ap (λ t. t ++ flat_map text_of (journal_from m false g.state number (kept ++ [])).journal)
          (sym (same-octets text (flat_map text_of g.part) g.written_is));
    }

-- the sink failed before the next line was read
pub gathers-front : {S E R : Type 0} {text_of : E → List ℕ} (m : Player S E R) (journal : Bool → List ℕ
    → Played E R) (left left' w w' w'' : Option (List ℕ)) (held : List ℕ) (run : Option S) (number : ℕ) (kept : List ℕ)
    (g : HasGathered text_of m journal left left' w w' held run number kept) → WritesFront held w' w''
    → WritesFront (flat_map text_of (journal false g.goes.given).journal) w w''
gathers-front m journal left left' w w' w'' held run number kept g put =
    front-put g.done held [] _ w w' w'' g.written_is
    (gathered-front m journal left left' (g.done ++ held) run number kept g.goes) put

pub fails : {S E R : Type 0} {text_of : E → List ℕ} (m : Player S E R) (journal : Bool → List ℕ
    → Played E R) (left left' w w' w'' : Option (List ℕ)) (held : List ℕ) (run : Option S) (number : ℕ) (kept : List ℕ)
    (i o : Type 0)
    → HasGathered text_of m journal left left' w w' held run number kept → WritesFront held w' w'' → o
    → HasPlayed text_of journal left left' w w'' i o endings.WriteFault
fails m journal left left' w w' w'' held run number kept i o g put fault = record {
  given = g.goes.given;
  left_is = g.goes.left_is;
  whole = false;
  end = λ e. cc;
  plays = (gathers-front m journal left left' w w' w'' held run number kept g put, fault);
}

pub runs-out : {S E R : Type 0} {text_of : E → List ℕ} (m : Player S E R) (journal : Bool → List ℕ
    → Played E R) (left left' w w' w'' : Option (List ℕ)) (held : List ℕ) (run : Option S) (number : ℕ) (kept : List ℕ)
    (i o : Type 0)
    → HasGathered text_of m journal left left' w w' held run number kept → WritesFront held w' w''
    → HasPlayed text_of journal left left' w w'' i o endings.NoMemory
runs-out m journal left left' w w' w'' held run number kept i o g put = record {
  given = g.goes.given;
  left_is = g.goes.left_is;
  whole = false;
  end = λ e. cc;
  plays = gathers-front m journal left left' w w' w'' held run number kept g put;
}

-- a line was run, and what it left was gathered
pub gathers-on : {S E R : Type 0} {text_of : E → List ℕ} (m : Player S E R) (journal : Bool → List ℕ
    → Played E R) (l0 l1 l2 w w' : Option (List ℕ)) (held held' : List ℕ) (run run' : Option S) (n n' : ℕ)
    (kept kept' : List ℕ)
    → HasGathered text_of m journal l0 l1 w w' held run n kept
    → GoesOn text_of m (onwards m (state_of m run) n kept) l1 l2 (Some held) (Some held') run' n' kept'
    → HasGathered text_of m journal l0 l2 w w' held' run' n' kept'
gathers-on {text_of} m journal l0 l1 l2 w w' held held' run run' n n' kept kept' g b = record {
  done = g.done;
  written_is = g.written_is;
  goes = goes-on m journal l0 l1 l2 (Some []) (Some (g.done ++ held)) (Some (g.done ++ held')) run run' n n' kept
      kept' g.goes
      (record {
        given = b.given;
        left_is = b.left_is;
        part = b.part;
        written_is = moved g.done held held' (flat_map text_of b.part) b.written_is;
        state = b.state;
        run_is = b.run_is;
        rest = b.rest;
      });
}

-- what a front of a text begins
plays-front : {E R : Type 0} (text_of : E → List ℕ) (played : Played E R) (text : List ℕ) (i o : Type 0)
    (ending : Ending R) → (o → ⊥)
    → Plays text_of played (Some []) (Some text) i o ending → IsFront text (flat_map text_of played.journal)
plays-front text_of played text i o endings.Done never p =
    record { rest = []; joined = sym (same-octets text _ p.1) ∙ sym (append-nil text) }
plays-front text_of played text i o (endings.Refused number reason) never p =
    record { rest = []; joined = sym (same-octets text _ p.1) ∙ sym (append-nil text) }
plays-front text_of played text i o endings.ReadFault never p =
    record { rest = []; joined = sym (same-octets text _ p.1) ∙ sym (append-nil text) }
plays-front text_of played text i o endings.WriteFault never p = absurd (never p.1)
plays-front text_of played text i o endings.NoMemory never p =
    record {
      rest = p.is_front.rest;
      joined = p.is_front.joined
          ∙ ap (λ t. t ++ p.is_front.rest) (sym (same-octets text p.front p.written_is));
    }

all-put : {E R : Type 0} (text_of : E → List ℕ) (played : Played E R) (done held : List ℕ) (w w' w'' : Option (List ℕ))
    (i o o' : Type 0) (ending : Ending R)
    → (o → ⊥) → w' ≡ after w done → w'' ≡ after w' held
    → Plays text_of played (Some []) (Some (done ++ held)) i o ending → Plays text_of played w w'' i o' ending
all-put text_of played done held w w' w'' i o o' endings.Done never first put p = (
  p.0,
  put ∙ ap (λ v. after v held) first ∙ after_after done held w
      ∙ ap (after w) (same-octets (done ++ held) _ p.1),
)
all-put text_of played done held w w' w'' i o o' (endings.Refused number reason) never first put p = (
  p.0,
  put ∙ ap (λ v. after v held) first ∙ after_after done held w
      ∙ ap (after w) (same-octets (done ++ held) _ p.1),
)
all-put text_of played done held w w' w'' i o o' endings.ReadFault never first put p = (
  p.0,
  put ∙ ap (λ v. after v held) first ∙ after_after done held w
      ∙ ap (after w) (same-octets (done ++ held) _ p.1),
  p.2,
)
all-put text_of played done held w w' w'' i o o' endings.WriteFault never first put p = absurd (never p.1)
all-put text_of played done held w w' w'' i o o' endings.NoMemory never first put p = record {
  front = done ++ held;
  is_front = plays-front text_of played (done ++ held) i o endings.NoMemory never p;
  written_is = put ∙ ap (λ v. after v held) first ∙ after_after done held w;
}

-- an ending was reached, and what was gathered was put
rest-put : {E R : Type 0} {text_of : E → List ℕ} (journal : Bool → List ℕ → Played E R) (left left' : Option (List ℕ))
    (done held : List ℕ)
    (w w' w'' : Option (List ℕ)) (i o o' : Type 0) (ending result : Ending R) → (o → ⊥) → w' ≡ after w done
    → HasPlayed text_of journal left left' (Some []) (Some (done ++ held)) i o ending
    → PutsRest ending held w' w'' o' result
    → HasPlayed text_of journal left left' w w'' i o' result
rest-put journal left left' done held w w' w'' i o o' ending result never first p (inl put) =
    rw put.0 (record {
      given = p.given;
      left_is = p.left_is;
      whole = p.whole;
      end = p.end;
      plays = all-put _ (journal p.whole p.given) done held w w' w'' i o o' ending never first put.1 p.plays;
    })
rest-put journal left left' done held w w' w'' i o o' ending result never first p (inr (inl put)) =
    rw put.0 (record {
      given = p.given;
      left_is = p.left_is;
      whole = p.whole;
      end = p.end;
      plays = (
        front-put done held [] _ w w' w'' first
            (plays-front _ (journal p.whole p.given) (done ++ held) i o ending never p.plays) put.1,
        put.2,
      );
    })
rest-put journal left left' done held w w' w'' i o o' ending result never first p (inr (inr put)) =
    rw put.0 (record {
      given = p.given;
      left_is = p.left_is;
      whole = p.whole;
      end = p.end;
      plays =
          front-put done held [] _ w w' w'' first
          (plays-front _ (journal p.whole p.given) (done ++ held) i o ending never p.plays) put.1;
    })

-- a fault of a later put is one of the whole
pub puts-by : {R : Type 0} (ending : Ending R) (held : List ℕ) (w w' : Option (List ℕ)) (fault fault' : Type 0)
    (result : Ending R)
    → (fault → fault') → PutsRest ending held w w' fault result → PutsRest ending held w w' fault' result
puts-by ending held w w' fault fault' result more (inl put) = inl put
puts-by ending held w w' fault fault' result more (inr (inl put)) = inr (inl (put.0, put.1, more put.2))
puts-by ending held w w' fault fault' result more (inr (inr put)) = inr (inr put)

pub puts-failed : (held held' : List ℕ) (w w' : Option (List ℕ)) (fault : Type 0) (e : PutFault) → e ≡ Failed
    → PutsSome held held' w w' fault (Err e) → WritesFront held w w' × fault
puts-failed held held' w w' fault Failed is put = put
puts-failed held held' w w' fault NoMemory is put = cc

pub puts-none : (held held' : List ℕ) (w w' : Option (List ℕ)) (fault : Type 0) (e : PutFault) → e ≡ NoMemory
    → PutsSome held held' w w' fault (Err e) → WritesFront held w w'
puts-none held held' w w' fault Failed is put = cc
puts-none held held' w w' fault NoMemory is put = put

-- a count that stays 0 doesn't rise
pub never-risen : HasRisen 0 0 → ⊥
never-risen has = elim has.rose [ inl lt ↦ omega (arith, lt) | inr top ↦ omega (arith, top) ]

-- a line stopped the reading
pub stops : {S E R : Type 0} {text_of : E → List ℕ} (m : Player S E R) (journal : Bool → List ℕ
    → Played E R) (l0 l1 l2 w w' w'' : Option (List ℕ)) (held held' : List ℕ) (run : Option S) (n : ℕ) (kept : List ℕ)
    (i i' o o' : Type 0) (ending result : Ending R)
    → HasGathered text_of m journal l0 l1 w w' held run n kept → (i → i') → (o → ⊥)
    → HasPlayed text_of (onwards m (state_of m run) n kept) l1 l2 (Some held) (Some held') i o ending
    → PutsRest ending held' w' w'' o' result → HasPlayed text_of journal l0 l2 w w'' i' o' result
stops {text_of} m journal l0 l1 l2 w w' w'' held held' run n kept i i' o o' ending result g f never p put =
    let q : HasPlayed text_of (onwards m (state_of m run) n kept) l1 l2 (Some (g.done ++ held))
    (Some (g.done ++ held')) i o
    ending =
    record {
      given = p.given;
      left_is = p.left_is;
      whole = p.whole;
      end = p.end;
      plays = moved-plays _ g.done held held' (onwards m (state_of m run) n kept p.whole p.given) i o ending p.plays;
    } in
    rest-put journal l0 l2 g.done held' w w' w'' i' o o' ending result never g.written_is
    (goes-played m journal l0 l1 l2 (Some []) (Some (g.done ++ held)) (Some (g.done ++ held')) run n kept i o i' o
    ending g.goes f (λ x. x) q) put

-- the last line was run
pub gathers-over : {S E R : Type 0} {text_of : E → List ℕ} (m : Player S E R) (journal : Bool → List ℕ
    → Played E R) (l0 l1 l2 w w' : Option (List ℕ)) (held held' : List ℕ) (run run' : Option S) (n : ℕ) (kept : List ℕ)
    → HasGathered text_of m journal l0 l1 w w' held run n kept
    → IsOver text_of m (onwards m (state_of m run) n kept) l1 l2 (Some held) (Some held') run'
    → IsGathered text_of m journal l0 l2 w w' held' run'
gathers-over {text_of} m journal l0 l1 l2 w w' held held' run run' n kept g b = record {
  done = g.done;
  written_is = g.written_is;
  over = goes-over m journal l0 l1 l2 (Some []) (Some (g.done ++ held)) (Some (g.done ++ held')) run run' n kept g.goes
      (record {
        given = b.given;
        left_is = b.left_is;
        whole = b.whole;
        end = b.end;
        part = b.part;
        written_is = moved g.done held held' (flat_map text_of b.part) b.written_is;
        state = b.state;
        run_is = b.run_is;
        rest = b.rest;
      });
}

-- what stands at the end was gathered, and all that was gathered was put
pub ends : {S E R : Type 0} {text_of : E → List ℕ} (m : Player S E R) (journal : Bool → List ℕ
    → Played E R) (l0 l1 w w' w'' : Option (List ℕ)) (held held' : List ℕ) (run : Option S) (i o o' : Type 0)
    (ending result : Ending R)
    → IsGathered text_of m journal l0 l1 w w' held run → (o → ⊥)
    → Plays text_of (finished m (state_of m run)) (Some held) (Some held') ⊥ o ending
    → PutsRest ending held' w' w'' o' result
    → HasPlayed text_of journal l0 l1 w w'' i o' result
ends m journal l0 l1 w w' w'' held held' run i o o' ending result g never p put =
    let q = over-played m journal l0 l1 (Some []) (Some (g.done ++ held)) (Some (g.done ++ held')) run i o o ending
    g.over (λ x. x) (moved-plays _ g.done held held' (finished m (state_of m run)) ⊥ o ending p) in
    rest-put journal l0 l1 g.done held' w w' w'' i o o' ending result never g.written_is q put

-- ---- the text of a line goes past what is gathered, where nothing is

-- all that was played is written
all-written : {S E R : Type 0} {text_of : E → List ℕ} (m : Player S E R) (journal : Bool → List ℕ
    → Played E R) (left left' w w' : Option (List ℕ)) (held : List ℕ) (run : Option S) (number : ℕ) (kept : List ℕ)
    → held ≡ [] → HasGathered text_of m journal left left' w w' held run number kept
    → GoesOn text_of m journal left left' w w' run number kept
all-written {text_of} m journal left left' w w' held run number kept none g = record {
  given = g.goes.given;
  left_is = g.goes.left_is;
  part = g.goes.part;
  written_is = g.written_is
      ∙ ap (after w)
      (sym (append-nil g.done) ∙ ap (λ t. g.done ++ t) (sym none)
      ∙ same-octets (g.done ++ held) (flat_map text_of g.goes.part) g.goes.written_is);
  state = g.goes.state;
  run_is = g.goes.run_is;
  rest = g.goes.rest;
}

-- a text and nothing
with-none : (text held : List ℕ) → held ≡ [] → Some (text ++ held) ≡ after (Some []) text
with-none text held none = ap Some (ap (λ t. text ++ t) none ∙ append-nil text)

none-gathered : {S E R : Type 0} {text_of : E → List ℕ} (m : Player S E R) (journal : Bool → List ℕ
    → Played E R) (left left' w w' : Option (List ℕ)) (held : List ℕ) (run : Option S) (number : ℕ) (kept : List ℕ)
    → held ≡ [] → GoesOn text_of m journal left left' w w' run number kept
    → HasGathered text_of m journal left left' w w' held run number kept
none-gathered {text_of} m journal left left' w w' held run number kept none g = record {
  done = flat_map text_of g.part;
  written_is = g.written_is;
  goes = record {
    given = g.given;
    left_is = g.left_is;
    part = g.part;
    written_is = with-none (flat_map text_of g.part) held none;
    state = g.state;
    run_is = g.run_is;
    rest = g.rest;
  };
}

-- a line was run, and what it left was written
pub past-on : {S E R : Type 0} {text_of : E → List ℕ} (m : Player S E R) (journal : Bool → List ℕ
    → Played E R) (l0 l1 l2 w w' w'' : Option (List ℕ)) (held : List ℕ) (run run' : Option S) (n n' : ℕ)
    (kept kept' : List ℕ)
    → held ≡ [] → HasGathered text_of m journal l0 l1 w w' held run n kept
    → GoesOn text_of m (onwards m (state_of m run) n kept) l1 l2 w' w'' run' n' kept'
    → HasGathered text_of m journal l0 l2 w w'' held run' n' kept'
past-on m journal l0 l1 l2 w w' w'' held run run' n n' kept kept' none g b =
    none-gathered m journal l0 l2 w w'' held run' n' kept' none
    (goes-on m journal l0 l1 l2 w w' w'' run run' n n' kept kept'
    (all-written m journal l0 l1 w w' held run n kept none g) b)

-- the last line was run, and what it left was written
pub past-over : {S E R : Type 0} {text_of : E → List ℕ} (m : Player S E R) (journal : Bool → List ℕ
    → Played E R) (l0 l1 l2 w w' w'' : Option (List ℕ)) (held : List ℕ) (run run' : Option S) (n : ℕ) (kept : List ℕ)
    → held ≡ [] → HasGathered text_of m journal l0 l1 w w' held run n kept
    → IsOver text_of m (onwards m (state_of m run) n kept) l1 l2 w' w'' run'
    → IsGathered text_of m journal l0 l2 w w'' held run'
past-over {text_of} m journal l0 l1 l2 w w' w'' held run run' n kept none g b =
    let all = goes-over m journal l0 l1 l2 w w' w'' run run' n kept
    (all-written m journal l0 l1 w w' held run n kept none g) b in
    record {
      done = flat_map text_of all.part;
      written_is = all.written_is;
      over = record {
        given = all.given;
        left_is = all.left_is;
        whole = all.whole;
        end = all.end;
        part = all.part;
        written_is = with-none (flat_map text_of all.part) held none;
        state = all.state;
        run_is = all.run_is;
        rest = all.rest;
      };
    }

-- a line stopped the reading, and what it left was written
pub past-stops : {S E R : Type 0} {text_of : E → List ℕ} (m : Player S E R) (journal : Bool → List ℕ
    → Played E R) (l0 l1 l2 w w' w'' : Option (List ℕ)) (held : List ℕ) (run : Option S) (n : ℕ) (kept : List ℕ)
    (i i' o o' : Type 0) (ending : Ending R)
    → held ≡ [] → HasGathered text_of m journal l0 l1 w w' held run n kept → (i → i') → (o → o')
    → HasPlayed text_of (onwards m (state_of m run) n kept) l1 l2 w' w'' i o ending
    → HasPlayed text_of journal l0 l2 w w'' i' o' ending
past-stops m journal l0 l1 l2 w w' w'' held run n kept i i' o o' ending none g f h p =
    goes-played m journal l0 l1 l2 w w' w'' run n kept i o i' o' ending
    (all-written m journal l0 l1 w w' held run n kept none g) f h p

-- A line's text is put part by part.
use Rattle.std.proofs.Common.{◌≡◌, ◌∙◌, ℕ, List, ◌++◌, refl, ap, sym, subst, append_assoc}
use Rattle.std.specs.Prelude.{Option, None, Some, is_some}
use Rattle.l2_io.specs.Known.{after, IsFront}
use Rattle.l2_io.proofs.Written.{after_after, front_behind, front_longer}
use Rattle.air_record.specs.declared.record.Record.{Record}
use Rattle.air_record.specs.Text.{texts_of}
use Rattle.line_player.specs.Streams.{WritesFront}
use Rattle.air_run.specs.Buffers.{after_records}
use Rattle.air_run.specs.Written.{Journal, told, all_seen}
use Rattle.air_run.specs.Putting.{text_in, pending, HasPut, HasTold, Stops}
use Rattle.air_run.specs.declared.refusal.StepFault.{StepFault}
use Rattle.air_run.specs.declared.refusal.StepFault.TheVariants as faults
use Rattle.air_run.proofs.Telling.{texts_both, seen-both, after-both}

-- one part behind the other
pub put_both : (all some left : List ℕ) (w w' w'' : Option (List ℕ)) → HasPut all some w w' → HasPut some left w' w''
    → HasPut all left w w''
put_both all some left w w' w'' a b =
    record {
      text = a.text ++ b.text;
      all_is = a.all_is ∙ ap (λ (t : List ℕ). a.text ++ t) b.all_is ∙ sym (append_assoc a.text b.text left);
      written_is =
          b.written_is ∙ ap (λ (o : Option (List ℕ)). after o b.text) a.written_is ∙ after_after a.text b.text w;
    }

pub put_front : (all some : List ℕ) (w w' w'' : Option (List ℕ)) → HasPut all some w w' → WritesFront some w' w''
    → WritesFront all w w''
put_front all some w w' w'' a b =
    record {
      front = a.text ++ b.front;
      is_front = subst (IsFront (a.text ++ b.front)) (sym a.all_is) (front_behind a.text b.front some b.is_front);
      written_is =
          b.written_is ∙ ap (λ (o : Option (List ℕ)). after o b.front) a.written_is ∙ after_after a.text b.front w;
    }

-- ---- records and those behind them

longer : (t : Option (List ℕ)) (a b : List ℕ) (front : List ℕ) → IsFront front (text_in (after t a))
    → IsFront front (text_in (after t (a ++ b)))
longer None a b front h = h
longer (Some x) a b front h =
    subst (IsFront front) (append_assoc x a b) (front_longer front (x ++ a) b h)

further : (t t' : Option (List ℕ)) (put a b : List ℕ) → is_some t' ≡ is_some t
    → text_in (after t a) ≡ put ++ text_in t' → text_in (after t (a ++ b)) ≡ put ++ text_in (after t' b)
further None None put a b e h = h
further (Some x) (Some y) put a b e h =
    sym (append_assoc x a b) ∙ ap (λ (s : List ℕ). s ++ b) h ∙ append_assoc put y b
further None (Some y) put a b e h = absurd (cc)
further (Some x) None put a b e h = absurd (cc)

pub more_left : (es more : List Record) (j k : Journal) (w w' : Option (List ℕ)) → HasTold es j k w w'
    → HasPut (pending (told (es ++ more) j)) (pending (told more k)) w w'
more_left es more j k w w' h =
    record {
      text = h.put.text;
      all_is =
          ap (λ (t : List ℕ). text_in (after j.text t)) (texts_both es more)
          ∙ further j.text k.text h.put.text (texts_of es) (texts_of more) h.wanted h.put.all_is;
      written_is = h.put.written_is;
    }

pub more_front : (es more : List Record) (j : Journal) (w w' : Option (List ℕ))
    → WritesFront (pending (told es j)) w w' → WritesFront (pending (told (es ++ more) j)) w w'
more_front es more j w w' h =
    record {
      front = h.front;
      is_front =
          subst (λ (t : List ℕ). IsFront h.front (text_in (after j.text t))) (sym (texts_both es more))
          (longer j.text (texts_of es) (texts_of more) h.front h.is_front);
      written_is = h.written_is;
    }

-- ---- a part and what comes behind it, towards a text that is the goal

pub put_further : (all : List ℕ) (left es more : List Record) (j k : Journal) (w w' w'' : Option (List ℕ))
    → left ≡ es ++ more → HasPut all (pending (told left j)) w w' → HasTold es j k w' w''
    → HasPut all (pending (told more k)) w w''
put_further all left es more j k w w' w'' e a h =
    put_both all (pending (told (es ++ more) j)) (pending (told more k)) w w' w''
    (subst (λ (rs : List Record). HasPut all (pending (told rs j)) w w') e a) (more_left es more j k w' w'' h)

put-stops : (all : List ℕ) (left es more : List Record) (j : Journal) (w w' w'' : Option (List ℕ))
    → left ≡ es ++ more → HasPut all (pending (told left j)) w w' → WritesFront (pending (told es j)) w' w''
    → WritesFront all w w''
put-stops all left es more j w w' w'' e a h =
    put_front all (pending (told left j)) w w' w'' a
    (subst (λ (rs : List Record). WritesFront (pending (told rs j)) w' w'') (sym e) (more_front es more j w' w'' h))

pub losses_further : (es more : List Record) (j k : Journal) (w w' : Option (List ℕ)) → HasTold es j k w w'
    → all_seen more k.losses ≡ all_seen (es ++ more) j.losses
losses_further es more j k w w' h =
    ap (all_seen more) h.losses ∙ sym (seen-both es more j.losses)

pub buffers_further : (es more : List Record) (j k : Journal) (w w' : Option (List ℕ)) → HasTold es j k w w'
    → after_records more k.buffers ≡ after_records (es ++ more) j.buffers
buffers_further es more j k w w' h =
    ap (after_records more) h.buffers ∙ sym (after-both es more j.buffers)

-- ---- what is put behind records that were told

still_wanted : (t : Option (List ℕ)) (text : List ℕ) → is_some (after t text) ≡ is_some t
still_wanted None text = refl
still_wanted (Some x) text = refl

-- a part stops the whole
pub part_stops : (all left es more : List Record) (i j : Journal) (w w' w'' : Option (List ℕ))
    (fault later : Type 0) (e : StepFault) → left ≡ es ++ more
    → HasPut (pending (told all i)) (pending (told left j)) w w' → (fault → later) → Stops es j w' w'' fault e
    → Stops all i w w'' later e
part_stops all left es more i j w w' w'' fault later (faults.Refused broken) is a so h = h
part_stops all left es more i j w w' w'' fault later faults.WriteFault is a so h =
    (so h.0, put-stops (pending (told all i)) left es more j w w' w'' is a h.1)
part_stops all left es more i j w w' w'' fault later faults.NoMemory is a so h =
    put-stops (pending (told all i)) left es more j w w' w'' is a h

-- ---- one part behind the other, and what follows

pub told_on : (es more : List Record) (j k : Journal) (w w' : Option (List ℕ)) → HasTold es j k w w'
    → HasTold (es ++ more) j (told more k) w w'
told_on es more j k w w' h = record {
  losses = losses_further es more j k w w' h;
  buffers = buffers_further es more j k w w' h;
  wanted = still_wanted k.text (texts_of more) ∙ h.wanted;
  put = more_left es more j k w w' h;
}

pub told_twice : (a b : List Record) (i j k : Journal) (w w' w'' : Option (List ℕ)) → HasTold a i j w w'
    → HasTold b j k w' w'' → HasTold (a ++ b) i k w w''
told_twice a b i j k w w' w'' h g = record {
  losses = g.losses ∙ losses_further a b i j w w' h;
  buffers = g.buffers ∙ buffers_further a b i j w w' h;
  wanted = g.wanted ∙ h.wanted;
  put = put_both (pending (told (a ++ b) i)) (pending (told b j)) (pending k) w w' w'' (more_left a b i j w w' h) g.put;
}

pub stops_behind : (a b : List Record) (i j : Journal) (w w' w'' : Option (List ℕ)) (fault later : Type 0)
    (e : StepFault) → HasTold a i j w w' → (fault → later) → Stops b j w' w'' fault e → Stops (a ++ b) i w w'' later e
stops_behind a b i j w w' w'' fault later (faults.Refused broken) h so s = s
stops_behind a b i j w w' w'' fault later faults.WriteFault h so s =
    (so s.0, put_front (pending (told (a ++ b) i)) (pending (told b j)) w w' w'' (more_left a b i j w w' h) s.1)
stops_behind a b i j w w' w'' fault later faults.NoMemory h so s =
    put_front (pending (told (a ++ b) i)) (pending (told b j)) w w' w'' (more_left a b i j w w' h) s

pub stops_before : (es more : List Record) (j : Journal) (w w' : Option (List ℕ)) (fault : Type 0) (e : StepFault)
    → Stops es j w w' fault e → Stops (es ++ more) j w w' fault e
stops_before es more j w w' fault (faults.Refused broken) s = s
stops_before es more j w w' fault faults.WriteFault s = (s.0, more_front es more j w w' s.1)
stops_before es more j w w' fault faults.NoMemory s = more_front es more j w w' s

-- memory runs out behind what was told
pub stops_told : (es : List Record) (j k : Journal) (w w' : Option (List ℕ)) (fault : Type 0) → HasTold es j k w w'
    → Stops es j w w' fault faults.NoMemory
stops_told es j k w w' fault h =
    record {
      front = h.put.text;
      is_front = record { rest = pending k; joined = h.put.all_is };
      written_is = h.put.written_is;
    }

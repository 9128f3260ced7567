-- Account and history go on agreeing as both take the same event.
use Rattle.std.proofs.Common.{◌≡◌, ◌<◌, ◌≤◌, ℕ, ◌+◌, ◌-◌, List, [], ◌∷◌, ◌++◌}
use Rattle.std.proofs.Common.{map, refl, ap, sym, ◌∙◌, arith, subst, append-nil}
use Rattle.std.specs.Prelude.{slice_index_or}
use Rattle.std.specs.List.{AllByRecursion}
use Rattle.std.proofs.lemmas.List.{get_or_append_left, length-append}
use Rattle.law_words.specs.Arrivals.{Given, Account, Gives, accounted}
use Rattle.law_words.specs.Stretches.{Stretch}
use Rattle.journal_account.specs.FlowEvents.{FlowEvent, SduTaken, NumberWritten, OctetsResent, OctetsArrived}
use Rattle.journal_account.specs.FlowEvents.{ReorderStarted, ReorderExpired, StatusHeard, PollExpired, field_sizes}
use Rattle.journal_account.specs.FlowEvents.{size_in, next_of}
use Rattle.journal_account.specs.Stream.{sdu_sizes, sdu_size_in}
use Rattle.journal_lives.specs.LifeEvents.{LifeEvent, PduGiven, InLife, running}
use Rattle.law_sound.proofs.Places.{stretches_in, IsWithin}
use Rattle.law_sound.proofs.Agreeing.{Agrees}

map_push : {A B : Type 0} (f : A → B) (xs : List A) (x : A) → map f (xs ++ x ∷ []) ≡ map f xs ++ f x ∷ []
map_push f [] x = refl
map_push f (y ∷ xs) x = ap (λ ys. f y ∷ ys) (map_push f xs x)

-- ---- stretches stay within fields of which more are written

within_more : (fields more : List ℕ) (ss : List Stretch) → AllByRecursion (IsWithin fields) ss
    → AllByRecursion (IsWithin (fields ++ more)) ss
within_more fields more [] h = tt
within_more fields more (s ∷ ss) h = (
  record {
    written = omega (arith, h.0.written, length-append fields more);
    ends = subst (λ (n : ℕ). s.from + s.size ≤ n) (sym (get_or_append_left fields more 0 s.number h.0.written))
        h.0.ends;
  },
  within_more fields more ss h.1,
)

same_fields : (fields others : List ℕ) (ss : List Stretch) → fields ≡ others → AllByRecursion (IsWithin fields) ss
    → AllByRecursion (IsWithin others) ss
same_fields fields others ss e h = subst (λ (xs : List ℕ). AllByRecursion (IsWithin xs) ss) e h

-- ---- PDCP gives RLC a PDU

pub agrees_given : (g : Given) (a : Account) (es : List LifeEvent) → Agrees a es
    → Agrees (accounted (Gives g) a) (PduGiven g.count g.size ∷ es)
agrees_given g a es h = record {
  fields = h.fields ∙ sym (append-nil (field_sizes (running es)));
  came = h.came;
  within =
      same_fields (field_sizes (running es)) (field_sizes (running es) ++ []) (stretches_in (running es))
      (sym (append-nil (field_sizes (running es)))) h.within;
  counts = map_push (λ (g : Given). g.count) a.given g ∙ ap (λ xs. xs ++ g.count ∷ []) h.counts;
  sizes = map_push (λ (g : Given). g.size) a.given g ∙ ap (λ (xs : List ℕ). xs ++ g.size ∷ []) h.sizes;
  ended = h.ended;
}

-- ---- the next number is written

abbrev pub with_size : ℕ → Account → Account
with_size size a = record a { rlc = record a.rlc { fields = a.rlc.fields ++ size ∷ [] } }

pub agrees_written : (size : ℕ) (a : Account) (es : List LifeEvent) → Agrees a es
    → Agrees (with_size size a) (InLife (NumberWritten size) ∷ es)
agrees_written size a es h = record {
  fields = ap (λ (xs : List ℕ). xs ++ size ∷ []) h.fields;
  came = h.came;
  within = within_more (field_sizes (running es)) (size ∷ []) (stretches_in (running es)) h.within;
  counts = h.counts;
  sizes = h.sizes ∙ sym (append-nil (sdu_sizes (running es)));
  ended = h.ended;
}

-- ---- octets come

abbrev pub with_come : ℕ → ℕ → ℕ → Account → Account
with_come n from size a =
    record a { rlc = record a.rlc { came = record { number = n; from = from; size = size } ∷ a.rlc.came } }

pub agrees_arrived : (n from size : ℕ) (a : Account) (es : List LifeEvent) → n < next_of (running es)
    → from + size ≤ slice_index_or (field_sizes (running es)) n 0 → Agrees a es
    → Agrees (with_come n from size a) (InLife (OctetsArrived n from (from + size)) ∷ es)
agrees_arrived n from size a es written ends h =
    let all : from + size - from ≡ size = omega arith in
    let same = sym (append-nil (field_sizes (running es))) in
    record {
      fields = h.fields ∙ same;
      came =
          ap (λ (ss : List Stretch). record { number = n; from = from; size = size } ∷ ss) h.came
          ∙ ap (λ (m : ℕ). record { number = n; from = from; size = m } ∷ stretches_in (running es)) (sym all);
      within =
          same_fields (field_sizes (running es)) (field_sizes (running es) ++ [])
          (record { number = n; from = from; size = from + size - from } ∷ stretches_in (running es)) same
          (record { written = written; ends = omega (arith, ends) }, h.within);
      counts = h.counts;
      sizes = h.sizes ∙ sym (append-nil (sdu_sizes (running es)));
      ended = h.ended;
    }

-- ---- what tells nothing of either

abbrev pub IsIdle : FlowEvent → Type 0
IsIdle (SduTaken size) = ⊥
IsIdle (NumberWritten size) = ⊥
IsIdle (OctetsArrived n from to) = ⊥
IsIdle e = Unit {0}

idle_by : (e : FlowEvent) (a : Account) (es : List LifeEvent) → size_in e ≡ [] → sdu_size_in e ≡ []
    → stretches_in (e ∷ running es) ≡ stretches_in (running es) → Agrees a es → Agrees a (InLife e ∷ es)
idle_by e a es none nothing same h =
    let fs : field_sizes (e ∷ running es) ≡ field_sizes (running es) =
    ap (λ (xs : List ℕ). field_sizes (running es) ++ xs) none ∙ append-nil (field_sizes (running es)) in
    record {
      fields = h.fields ∙ sym fs;
      came = h.came ∙ sym same;
      within =
          subst (λ (ss : List Stretch). AllByRecursion (IsWithin (field_sizes (e ∷ running es))) ss) (sym same)
          (same_fields (field_sizes (running es)) (field_sizes (e ∷ running es)) (stretches_in (running es)) (sym fs)
          h.within);
      counts = h.counts;
      sizes =
          h.sizes ∙ sym (append-nil (sdu_sizes (running es)))
          ∙ sym (ap (λ (xs : List ℕ). sdu_sizes (running es) ++ xs) nothing);
      ended = h.ended;
    }

pub agrees_idle : (e : FlowEvent) (a : Account) (es : List LifeEvent) → IsIdle e → Agrees a es
    → Agrees a (InLife e ∷ es)
agrees_idle (SduTaken size) a es idle h = absurd idle
agrees_idle (NumberWritten size) a es idle h = absurd idle
agrees_idle (OctetsResent n from to) a es idle h = idle_by (OctetsResent n from to) a es refl refl refl h
agrees_idle (OctetsArrived n from to) a es idle h = absurd idle
agrees_idle ReorderStarted a es idle h = idle_by ReorderStarted a es refl refl refl h
agrees_idle ReorderExpired a es idle h = idle_by ReorderExpired a es refl refl refl h
agrees_idle (StatusHeard ack entries) a es idle h = idle_by (StatusHeard ack entries) a es refl refl refl h
agrees_idle (PollExpired more) a es idle h = idle_by (PollExpired more) a es refl refl refl h

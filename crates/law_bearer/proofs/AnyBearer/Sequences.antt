-- Sequences of events, one behind another.
use Rattle.std.proofs.Common.{◌≡◌, inl, List, [], ◌∷◌, ◌++◌, append-nil, append_assoc, refl, ap, sym, ◌∙◌, subst}
use Rattle.std.proofs.lemmas.List.Elements.{All-nil, All-cons, All-append}
use Rattle.bearer_types.specs.declared.Event.{Event}
use Rattle.law_words.specs.BearerOrder.{OfEvents}
use Rattle.law_words.specs.Sequences.{◌then◌, maybe, joined, many}

pub both : (A B : OfEvents) (a b : List Event) → A a → B b → (A then B) (a ++ b)
both A B a b p q = record { first = a; second = b; told_are = refl; is_first = p; is_second = q }

pub none : (A : OfEvents) → maybe A []
none A = inl refl

pub many_none : (A : OfEvents) → many A []
many_none A = record { parts = []; told_are = refl; are_each = All-nil A }

pub many_more : (A : OfEvents) (a b : List Event) → A a → many A b → many A (a ++ b)
many_more A a b p m = record {
  parts = a ∷ m.parts;
  told_are = ap (λ (es : List Event). a ++ es) m.told_are;
  are_each = All-cons A a m.parts p m.are_each;
}

pub many_one : (A : OfEvents) (a : List Event) → A a → many A a
many_one A a p = record { parts = a ∷ []; told_are = sym (append-nil a); are_each = All-cons A a [] p (All-nil A) }

parts_both : (xs ys : List (List Event)) → joined (xs ++ ys) ≡ joined xs ++ joined ys
parts_both [] ys = refl
parts_both (x ∷ xs) ys = ap (λ (es : List Event). x ++ es) (parts_both xs ys)
    ∙ sym (append_assoc x (joined xs) (joined ys))

pub many_both : (A : OfEvents) (a b : List Event) → many A a → many A b → many A (a ++ b)
many_both A a b m n = record {
  parts = m.parts ++ n.parts;
  told_are = ap (λ (es : List Event). es ++ b) m.told_are ∙ ap (λ (es : List Event). joined m.parts ++ es) n.told_are
      ∙ sym (parts_both m.parts n.parts);
  are_each = All-append A m.parts n.parts m.are_each n.are_each;
}

-- ---- what is told behind something is of a set

pub record Behind (told : List Event) (A : OfEvents) (all : List Event) : Type 0 where
  pub rest : List Event
  pub all_are : all ≡ told ++ rest
  pub is_rest : A rest

pub behind : (told : List Event) (A : OfEvents) (a : List Event) → A a → Behind told A (told ++ a)
behind told A a p = record { rest = a; all_are = refl; is_rest = p }

pub behind_none : (told : List Event) (A : OfEvents) → A [] → Behind told A told
behind_none told A p = record { rest = []; all_are = sym (append-nil told); is_rest = p }

pub behind_as : (told : List Event) (A B : OfEvents) (all : List Event) → ((es : List Event) → A es → B es)
    → Behind told A all → Behind told B all
behind_as told A B all f k = record { rest = k.rest; all_are = k.all_are; is_rest = f k.rest k.is_rest }

-- the same from one to the next
pub behind_then : (told more : List Event) (A B : OfEvents) (all : List Event) → Behind told A more
    → Behind more B all → Behind told (A then B) all
behind_then told more A B all j k = record {
  rest = j.rest ++ k.rest;
  all_are = k.all_are ∙ ap (λ (es : List Event). es ++ k.rest) j.all_are ∙ append_assoc told j.rest k.rest;
  is_rest = both A B j.rest k.rest j.is_rest k.is_rest;
}

pub behind_many : (told more : List Event) (A : OfEvents) (all : List Event) → Behind told A more
    → Behind more (many A) all → Behind told (many A) all
behind_many told more A all j k = record {
  rest = j.rest ++ k.rest;
  all_are = k.all_are ∙ ap (λ (es : List Event). es ++ k.rest) j.all_are ∙ append_assoc told j.rest k.rest;
  is_rest = many_more A j.rest k.rest j.is_rest k.is_rest;
}

-- behind nothing it is all
pub behind_nothing : (A : OfEvents) (all : List Event) → Behind [] A all → A all
behind_nothing A all k = subst A (sym k.all_are) k.is_rest

-- what stands first is of a set
pub begun : (told : List Event) (A B : OfEvents) (all : List Event) → A told → Behind told B all → (A then B) all
begun told A B all p k = record {
  first = told;
  second = k.rest;
  told_are = k.all_are;
  is_first = p;
  is_second = k.is_rest;
}

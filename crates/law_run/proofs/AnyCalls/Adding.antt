-- How records are added: none, one, and one stage after another.
use Rattle.std.proofs.Common.{◌≡◌, ◌<◌, ℕ, ◌+◌, Bool, true, false, cond, ◌||◌, List, [], ◌∷◌, ◌++◌, length}
use Rattle.std.proofs.Common.{append_assoc}
use Rattle.std.proofs.Common.{append-nil, get_or-set_same, get_or-set_other, refl, ap, sym, ◌∙◌, subst, arith, inl, inr}
use Rattle.std.specs.List.{filter, list_any}
use Rattle.std.specs.Prelude.{slice_index, slice_index_or, slice_set}
use Rattle.std.proofs.lemmas.Bool.{cases_eq}
use Rattle.std.proofs.lemmas.List.{length-append}
use Rattle.std.proofs.lemmas.List.Elements.{filter-append}
use Rattle.std.proofs.Math.ListN.{length-set}
use Rattle.air_record.specs.declared.record.Record.{Record}
use Rattle.l2_types.specs.declared.side.Side.{Side}
use Rattle.l2_types.specs.declared.side.Side.TheVariants.{Nb, Ue}
use Rattle.air_link.specs.Link.{Link, says}
use Rattle.air_link.specs.Telling.{one_more}
use Rattle.law_run.specs.AnyCalls.Counts.{ups, loopeds, Grows, is_fail, gives_up, AreMarked}
use Rattle.promises.specs.Records.{is_up, is_looped, is_of_run, is_of_air}
use Rattle.law_run.specs.AnyCalls.Told.{Tells, Adds}

-- ---- tables

pub same_grows : (by : ℕ → ℕ) (xs ys : List ℕ) → ys ≡ xs → ((k : ℕ) → by k ≡ 0) → Grows by xs ys
same_grows by xs ys e z = record {
  same_length = ap length e;
  grown = λ k lt. let now : slice_index ys k ≡ slice_index xs k = ap (λ (zs : List ℕ). slice_index zs k) e in
      omega (arith, now, z k);
}

pub grows_then : (f g h : ℕ → ℕ) (xs ys zs : List ℕ) → ((k : ℕ) → h k ≡ f k + g k) → Grows f xs ys → Grows g ys zs
    → Grows h xs zs
grows_then f g h xs ys zs e p q = record {
  same_length = q.same_length ∙ p.same_length;
  grown = λ k lt.
      let within : k < length ys = omega (arith, p.same_length) in
      let first = p.grown k lt in
      let then' = q.grown k within in
      omega (arith, first, then', e k);
}

-- a place that grows by one, and the others that stay
here : (xs : List ℕ) (lcid k : ℕ) → k < length xs → lcid ≡ k → slice_index (one_more xs lcid) k ≡ slice_index xs k + 1
here xs lcid k lt e =
    subst (λ (n : ℕ). slice_index (one_more xs lcid) n ≡ slice_index xs n + 1) e
    (get_or-set_same xs lcid (slice_index xs lcid + 1) 0 (subst (λ (n : ℕ). n < length xs) (sym e) lt))

there : (xs : List ℕ) (lcid k : ℕ) → (lcid ≡ k → ⊥) → slice_index (one_more xs lcid) k ≡ slice_index xs k
there xs lcid k apart = get_or-set_other xs lcid k (slice_index xs lcid + 1) 0 (λ (e : k ≡ lcid). apart (sym e))

pub one_grows : (by : ℕ → ℕ) (xs : List ℕ) (lcid : ℕ) → by lcid ≡ 1 → ((k : ℕ) → (lcid ≡ k → ⊥) → by k ≡ 0)
    → Grows by xs (one_more xs lcid)
one_grows by xs lcid one none = record {
  same_length = length-set xs lcid (slice_index xs lcid + 1);
  grown = λ k lt. elim (cases_eq lcid k) [
    | inl e ↦
        let now = here xs lcid k lt e in
        let by_one : by k ≡ 1 = subst (λ (n : ℕ). by n ≡ 1) e one in
        omega (arith, now, by_one)
    | inr apart ↦
        let now = there xs lcid k apart in
        omega (arith, now, none k apart)
  ];
}

-- ---- tables of marks

or_none : (a b : Bool) → b ≡ false → a || b ≡ a
or_none true b e = refl
or_none false b e = e

or_some : (a b : Bool) → b ≡ true → true ≡ a || b
or_some true b e = refl
or_some false b e = sym e

or_then : (a b c : Bool) → (a || b) || c ≡ a || (b || c)
or_then true b c = refl
or_then false b c = refl

pub same_marked : (by : ℕ → Bool) (xs ys : List Bool) → ys ≡ xs → ((k : ℕ) → by k ≡ false) → AreMarked by xs ys
same_marked by xs ys e z = record {
  same_length = ap length e;
  marked = λ k lt. ap (λ (zs : List Bool). slice_index_or zs k false) e
      ∙ sym (or_none (slice_index_or xs k false) (by k) (z k));
}

pub marked_then : (f g h : ℕ → Bool) (xs ys zs : List Bool) → ((k : ℕ) → h k ≡ f k || g k) → AreMarked f xs ys
    → AreMarked g ys zs → AreMarked h xs zs
marked_then f g h xs ys zs e p q = record {
  same_length = q.same_length ∙ p.same_length;
  marked = λ k lt.
      let within : k < length ys = omega (arith, p.same_length) in
      q.marked k within ∙ ap (λ (b : Bool). b || g k) (p.marked k lt)
      ∙ or_then (slice_index_or xs k false) (f k) (g k) ∙ ap (λ (b : Bool). slice_index_or xs k false || b) (sym (e k));
}

-- a place that is marked, and the others that stay
pub one_marked : (by : ℕ → Bool) (xs : List Bool) (lcid : ℕ) → by lcid ≡ true
    → ((k : ℕ) → (lcid ≡ k → ⊥) → by k ≡ false) → AreMarked by xs (slice_set xs lcid true)
one_marked by xs lcid one none = record {
  same_length = length-set xs lcid true;
  marked = λ k lt. elim (cases_eq lcid k) [
    | inl e ↦
        subst (λ (n : ℕ). slice_index_or (slice_set xs lcid true) n false ≡ slice_index_or xs n false || by n) e
        (get_or-set_same xs lcid true false (subst (λ (n : ℕ). n < length xs) (sym e) lt)
        ∙ or_some (slice_index_or xs lcid false) (by lcid) one)
    | inr apart ↦
        get_or-set_other xs lcid k true false (λ (e : k ≡ lcid). apart (sym e))
        ∙ sym (or_none (slice_index_or xs k false) (by k) (none k apart))
  ];
}

-- ---- records

-- what a test keeps of one record
pub kept_one : (b : Bool) (one : Record) → b ≡ true → length (cond b (one ∷ []) []) ≡ 1
kept_one b one e = rw e refl

pub kept_none : (b : Bool) (one : Record) → b ≡ false → length (cond b (one ∷ []) []) ≡ 0
kept_none b one e = rw e refl

pub count_then : (test : Record → Bool) (a b : List Record)
    → length (filter test (a ++ b)) ≡ length (filter test a) + length (filter test b)
count_then test a b = ap length (filter-append test a b) ∙ length-append (filter test a) (filter test b)

pub any_then : (test : Record → Bool) (a b : List Record) → list_any test (a ++ b) ≡ list_any test a || list_any test b
any_then test [] b = refl
any_then test (one ∷ a) b =
    ap (λ (x : Bool). test one || x) (any_then test a b) ∙ sym (or_then (test one) (list_any test a) (list_any test b))

pub any_one : (b : Bool) → b ≡ true → b || false ≡ true
any_one true e = refl
any_one false e = e

pub any_none : (b : Bool) → b ≡ false → b || false ≡ false
any_none true e = e
any_none false e = refl

pub tells_then : (a b f g : List Record) (l m n : Link) → Tells a f l m → Tells b g m n → Tells (a ++ b) (f ++ g) l n
tells_then a b f g l m n p q = record {
  nb_delivered =
      grows_then (λ k. ups Nb k a) (λ k. ups Nb k b) (λ k. ups Nb k (a ++ b)) l.up.delivered m.up.delivered
      n.up.delivered (λ k. count_then (is_up Nb k) a b) p.nb_delivered q.nb_delivered;
  ue_delivered =
      grows_then (λ k. ups Ue k a) (λ k. ups Ue k b) (λ k. ups Ue k (a ++ b)) l.down.delivered m.down.delivered
      n.down.delivered (λ k. count_then (is_up Ue k) a b) p.ue_delivered q.ue_delivered;
  nb_submitted = q.nb_submitted ∙ p.nb_submitted;
  ue_submitted =
      grows_then (λ k. loopeds k a) (λ k. loopeds k b) (λ k. loopeds k (a ++ b)) l.up.submitted m.up.submitted
      n.up.submitted (λ k. count_then (is_looped k) a b) p.ue_submitted q.ue_submitted;
  nb_failed =
      marked_then (λ k. gives_up Nb k a) (λ k. gives_up Nb k b) (λ k. gives_up Nb k (a ++ b)) l.down.failed
      m.down.failed n.down.failed (λ k. any_then (is_fail Nb k) a b) p.nb_failed q.nb_failed;
  ue_failed =
      marked_then (λ k. gives_up Ue k a) (λ k. gives_up Ue k b) (λ k. gives_up Ue k (a ++ b)) l.up.failed m.up.failed
      n.up.failed (λ k. any_then (is_fail Ue k) a b) p.ue_failed q.ue_failed;
  flown_is = filter-append is_of_air a b ∙ ap (λ (x : List Record). x ++ filter is_of_air b) p.flown_is
      ∙ ap (λ (x : List Record). f ++ x) q.flown_is;
  none_of_run = filter-append is_of_run a b ∙ ap (λ (x : List Record). x ++ filter is_of_run b) p.none_of_run
      ∙ q.none_of_run;
}

pub adds_then : (f g : List Record) (l m n : Link) → Adds f l m → Adds g m n → Adds (f ++ g) l n
adds_then f g l m n p q = record {
  more = p.more ++ q.more;
  out_is = q.out_is ∙ ap (λ (x : List Record). x ++ q.more) p.out_is ∙ append_assoc l.out p.more q.more;
  ttis_is = q.ttis_is ∙ p.ttis_is;
  told = tells_then p.more q.more f g l m n p.told q.told;
}

-- a stage in which no block flies
pub then_still : (f : List Record) (l m n : Link) → Adds f l m → Adds [] m n → Adds f l n
then_still f l m n p q = subst (λ (x : List Record). Adds x l n) (append-nil f) (adds_then f [] l m n p q)

-- ---- what the laws look at of a link

pub record Books : Type 0 where
  pub out : List Record
  pub ttis : ℕ
  pub down_submitted : List ℕ
  pub down_delivered : List ℕ
  pub up_submitted : List ℕ
  pub up_delivered : List ℕ
  pub down_failed : List Bool
  pub up_failed : List Bool

abbrev pub books : Link → Books
books l = record {
  out = l.out;
  ttis = l.ttis;
  down_submitted = l.down.submitted;
  down_delivered = l.down.delivered;
  up_submitted = l.up.submitted;
  up_delivered = l.up.delivered;
  down_failed = l.down.failed;
  up_failed = l.up.failed;
}

-- what changes none of it
pub stays : (l m : Link) → books m ≡ books l → Adds [] l m
stays l m e = record {
  more = [];
  out_is = ap (λ (b : Books). b.out) e ∙ sym (append-nil l.out);
  ttis_is = ap (λ (b : Books). b.ttis) e;
  told = record {
    nb_delivered =
        same_grows (λ k. ups Nb k []) l.up.delivered m.up.delivered (ap (λ (b : Books). b.up_delivered) e)
        (λ k. refl);
    ue_delivered =
        same_grows (λ k. ups Ue k []) l.down.delivered m.down.delivered (ap (λ (b : Books). b.down_delivered) e)
        (λ k. refl);
    nb_submitted = ap (λ (b : Books). b.down_submitted) e;
    ue_submitted =
        same_grows (λ k. loopeds k []) l.up.submitted m.up.submitted (ap (λ (b : Books). b.up_submitted) e)
        (λ k. refl);
    nb_failed =
        same_marked (λ k. gives_up Nb k []) l.down.failed m.down.failed (ap (λ (b : Books). b.down_failed) e)
        (λ k. refl);
    ue_failed =
        same_marked (λ k. gives_up Ue k []) l.up.failed m.up.failed (ap (λ (b : Books). b.up_failed) e) (λ k. refl);
    flown_is = refl;
    none_of_run = refl;
  };
}

-- a record that tells of no SDU and of no failure, and is of no run
pub record IsPlain (one : Record) : Type 0 where
  pub no_up : (side : Side) (lcid : ℕ) → is_up side lcid one ≡ false
  pub no_loop : (lcid : ℕ) → is_looped lcid one ≡ false
  pub no_fail : (side : Side) (lcid : ℕ) → is_fail side lcid one ≡ false
  pub no_run : is_of_run one ≡ false

pub says_plain : (one : Record) (l : Link) → IsPlain one → Adds (filter is_of_air (one ∷ [])) l (says one l)
says_plain one l p = record {
  more = one ∷ [];
  out_is = refl;
  ttis_is = refl;
  told = record {
    nb_delivered =
        same_grows (λ k. ups Nb k (one ∷ [])) l.up.delivered l.up.delivered refl
        (λ k. kept_none (is_up Nb k one) one (p.no_up Nb k));
    ue_delivered =
        same_grows (λ k. ups Ue k (one ∷ [])) l.down.delivered l.down.delivered refl
        (λ k. kept_none (is_up Ue k one) one (p.no_up Ue k));
    nb_submitted = refl;
    ue_submitted =
        same_grows (λ k. loopeds k (one ∷ [])) l.up.submitted l.up.submitted refl
        (λ k. kept_none (is_looped k one) one (p.no_loop k));
    nb_failed =
        same_marked (λ k. gives_up Nb k (one ∷ [])) l.down.failed l.down.failed refl
        (λ k. any_none (is_fail Nb k one) (p.no_fail Nb k));
    ue_failed =
        same_marked (λ k. gives_up Ue k (one ∷ [])) l.up.failed l.up.failed refl
        (λ k. any_none (is_fail Ue k one) (p.no_fail Ue k));
    flown_is = refl;
    none_of_run = ap (λ (b : Bool). cond b (one ∷ []) []) p.no_run;
  };
}

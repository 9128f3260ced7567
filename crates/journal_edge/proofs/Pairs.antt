-- SDUs that are compared as they come are even exactly where both lists are the same.
use Rattle.std.proofs.Common.{◌≡◌, ℕ, ◌+◌, Bool, true, ◌&&◌, List, [], ◌∷◌, ◌++◌, length, take, drop}
use Rattle.std.proofs.Common.{inl, inr, ◌⊎◌, refl, ap, sym, ◌∙◌, append_assoc, length-append, append-nil}
use Rattle.std.specs.Str.{bytes_eq}
use Rattle.std.proofs.Math.Seq.{take-append_seam, drop-append_seam}
use Rattle.std.proofs.lemmas.Bool.{and_parts, and_from, false≢true}
use Rattle.std.proofs.lemmas.Slice.Eq.{bytes_eq-Decides}
use Rattle.journal_edge.specs.Pairing.{Pairing, with_read, read_beside, with_up, up_beside, is_even}
use Rattle.journal_edge.specs.Pairing.{is_none, Told, IsRead, GoesUp, paired, reads_in, ups_in}

record Parts (rs us xs ys : List (List ℕ)) : Type 0 where
  firsts : rs ≡ us
  rests : xs ≡ ys

parts : (rs us xs ys : List (List ℕ)) → length rs ≡ length us → rs ++ xs ≡ us ++ ys → Parts rs us xs ys
parts rs us xs ys size e = record {
  firsts = sym (take-append_seam rs xs) ∙ ap (λ (n : ℕ). take n (rs ++ xs)) size
      ∙ ap (λ (l : List (List ℕ)). take (length us) l) e ∙ take-append_seam us ys;
  rests = sym (drop-append_seam rs xs) ∙ ap (λ (n : ℕ). drop n (rs ++ xs)) size
      ∙ ap (λ (l : List (List ℕ)). drop (length us) l) e ∙ drop-append_seam us ys;
}

cons≢nil : (x : List ℕ) (xs : List (List ℕ)) → x ∷ xs ≡ [] → ⊥
cons≢nil x xs e = false≢true (ap is_none e)

one_inj : (x y : List ℕ) → x ∷ [] ≡ y ∷ [] → x ≡ y
one_inj x y e = cc

-- those that were compared stand first, and of one list nothing else does
pub record ArePaired (reads ups : List (List ℕ)) (p : Pairing) : Type 0 where
  pub rs : List (List ℕ)
  pub us : List (List ℕ)
  pub reads_is : reads ≡ rs ++ p.read
  pub ups_is : ups ≡ us ++ p.up
  pub sizes : length rs ≡ length us
  pub same : p.same ≡ true → rs ≡ us
  pub are : rs ≡ us → p.same ≡ true
  pub one : (p.read ≡ []) ⊎ (p.up ≡ [])

longer : (rs us : List (List ℕ)) (x y : List ℕ) → length rs ≡ length us
    → length (rs ++ x ∷ []) ≡ length (us ++ y ∷ [])
longer rs us x y size =
    length-append rs (x ∷ []) ∙ ap (λ (n : ℕ). n + 1) size ∙ sym (length-append us (y ∷ []))

-- one more is compared
both : (rs us : List (List ℕ)) (x y : List ℕ) (b : Bool) → length rs ≡ length us
    → (b ≡ true → rs ≡ us) → b && bytes_eq x y ≡ true → rs ++ x ∷ [] ≡ us ++ y ∷ []
both rs us x y b size same e =
    let h = and_parts b (bytes_eq x y) e in
    ap (λ (l : List (List ℕ)). l ++ x ∷ []) (same h.0)
    ∙ ap (λ (z : List ℕ). us ++ z ∷ []) ((bytes_eq-Decides x y).0 h.1)

both_are : (rs us : List (List ℕ)) (x y : List ℕ) (b : Bool) → length rs ≡ length us
    → (rs ≡ us → b ≡ true) → rs ++ x ∷ [] ≡ us ++ y ∷ [] → b && bytes_eq x y ≡ true
both_are rs us x y b size are e =
    let h = parts rs us (x ∷ []) (y ∷ []) size e in
    and_from b (bytes_eq x y) (are h.firsts) ((bytes_eq-Decides x y).1 (one_inj x y h.rests))

seam : (xs : List (List ℕ)) (x : List ℕ) (rest : List (List ℕ)) → xs ++ x ∷ rest ≡ (xs ++ x ∷ []) ++ rest
seam xs x rest = sym (append_assoc xs (x ∷ []) rest)

pub read_pairs : (sdu : List ℕ) (reads ups : List (List ℕ)) (p : Pairing) → ArePaired reads ups p
    → ArePaired (reads ++ sdu ∷ []) ups (with_read sdu p)
read_pairs sdu reads ups p h = by p.up refl
  where
    by : (left : List (List ℕ)) → p.up ≡ left → ArePaired (reads ++ sdu ∷ []) ups (read_beside sdu left p)
    by [] is = record {
      rs = h.rs;
      us = h.us;
      reads_is = ap (λ (l : List (List ℕ)). l ++ sdu ∷ []) h.reads_is ∙ append_assoc h.rs p.read (sdu ∷ []);
      ups_is = h.ups_is;
      sizes = h.sizes;
      same = h.same;
      are = h.are;
      one = inr is;
    }
    by (up ∷ rest) is = record {
      rs = h.rs ++ sdu ∷ [];
      us = h.us ++ up ∷ [];
      reads_is = ap (λ (l : List (List ℕ)). l ++ sdu ∷ [])
          (h.reads_is ∙ ap (λ (l : List (List ℕ)). h.rs ++ l) (none h.one) ∙ append-nil h.rs)
          ∙ sym (append-nil (h.rs ++ sdu ∷ []))
          ∙ ap (λ (l : List (List ℕ)). (h.rs ++ sdu ∷ []) ++ l) (sym (none h.one));
      ups_is = h.ups_is ∙ ap (λ (l : List (List ℕ)). h.us ++ l) is ∙ seam h.us up rest;
      sizes = longer h.rs h.us sdu up h.sizes;
      same = both h.rs h.us sdu up p.same h.sizes h.same;
      are = both_are h.rs h.us sdu up p.same h.sizes h.are;
      one = inl (none h.one);
    }
      where
        none : (p.read ≡ []) ⊎ (p.up ≡ []) → p.read ≡ []
        none (inl e) = e
        none (inr e) = absurd (cons≢nil up rest (sym is ∙ e))

pub up_pairs : (sdu : List ℕ) (reads ups : List (List ℕ)) (p : Pairing) → ArePaired reads ups p
    → ArePaired reads (ups ++ sdu ∷ []) (with_up sdu p)
up_pairs sdu reads ups p h = by p.read refl
  where
    by : (left : List (List ℕ)) → p.read ≡ left → ArePaired reads (ups ++ sdu ∷ []) (up_beside sdu left p)
    by [] is = record {
      rs = h.rs;
      us = h.us;
      reads_is = h.reads_is;
      ups_is = ap (λ (l : List (List ℕ)). l ++ sdu ∷ []) h.ups_is ∙ append_assoc h.us p.up (sdu ∷ []);
      sizes = h.sizes;
      same = h.same;
      are = h.are;
      one = inl is;
    }
    by (read ∷ rest) is = record {
      rs = h.rs ++ read ∷ [];
      us = h.us ++ sdu ∷ [];
      reads_is = h.reads_is ∙ ap (λ (l : List (List ℕ)). h.rs ++ l) is ∙ seam h.rs read rest;
      ups_is = ap (λ (l : List (List ℕ)). l ++ sdu ∷ [])
          (h.ups_is ∙ ap (λ (l : List (List ℕ)). h.us ++ l) (none h.one) ∙ append-nil h.us)
          ∙ sym (append-nil (h.us ++ sdu ∷ []))
          ∙ ap (λ (l : List (List ℕ)). (h.us ++ sdu ∷ []) ++ l) (sym (none h.one));
      sizes = longer h.rs h.us read sdu h.sizes;
      same = both h.rs h.us read sdu p.same h.sizes h.same;
      are = both_are h.rs h.us read sdu p.same h.sizes h.are;
      one = inr (none h.one);
    }
      where
        none : (p.read ≡ []) ⊎ (p.up ≡ []) → p.up ≡ []
        none (inr e) = e
        none (inl e) = absurd (cons≢nil read rest (sym is ∙ e))

pub all_pair : (told : List Told) → ArePaired (reads_in told) (ups_in told) (paired told)
all_pair [] = record {
  rs = [];
  us = [];
  reads_is = refl;
  ups_is = refl;
  sizes = refl;
  same = λ e. refl;
  are = λ e. refl;
  one = inl refl;
}
all_pair (IsRead sdu ∷ told) = read_pairs sdu (reads_in told) (ups_in told) (paired told) (all_pair told)
all_pair (GoesUp sdu ∷ told) = up_pairs sdu (reads_in told) (ups_in told) (paired told) (all_pair told)

none_is : (xs : List (List ℕ)) → is_none xs ≡ true → xs ≡ []
none_is [] e = refl
none_is (x ∷ xs) e = absurd (false≢true e)

pub even_same : (reads ups : List (List ℕ)) (p : Pairing) → ArePaired reads ups p → is_even p ≡ true → reads ≡ ups
even_same reads ups p h e =
    let both' = and_parts (p.same && is_none p.read) (is_none p.up) e in
    let first = and_parts p.same (is_none p.read) both'.0 in
    h.reads_is ∙ ap (λ (l : List (List ℕ)). h.rs ++ l) (none_is p.read first.1)
    ∙ ap (λ (l : List (List ℕ)). l ++ []) (h.same first.0)
    ∙ sym (h.ups_is ∙ ap (λ (l : List (List ℕ)). h.us ++ l) (none_is p.up both'.1))

pub same_even : (reads ups : List (List ℕ)) (p : Pairing) → ArePaired reads ups p → reads ≡ ups → is_even p ≡ true
same_even reads ups p h e =
    let cut = parts h.rs h.us p.read p.up h.sizes (sym h.reads_is ∙ e ∙ h.ups_is) in
    let n = nones h.one cut.rests in
    and_from (p.same && is_none p.read) (is_none p.up)
    (and_from p.same (is_none p.read) (h.are cut.firsts) (ap is_none n.0)) (ap is_none n.1)
  where
    nones : (p.read ≡ []) ⊎ (p.up ≡ []) → p.read ≡ p.up → (p.read ≡ []) × (p.up ≡ [])
    nones (inl r) e = (r, sym e ∙ r)
    nones (inr u) e = (e ∙ u, u)

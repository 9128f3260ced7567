-- SDUs that come back are part of those that went up: nothing is told, a record, records behind others.
use Rattle.std.proofs.Common.{◌≡◌, ℕ, zero, suc, ◌+◌, ◌-◌, ◌==◌, List, [], ◌∷◌, ◌++◌, length, take, append_assoc}
use Rattle.std.proofs.Common.{false, append-nil, refl, ap, sym, subst, ◌∙◌, arith, inl, inr}
use Rattle.std.specs.List.{AllByRecursion, filter}
use Rattle.std.proofs.lemmas.Bool.{cases_lt}
use Rattle.std.proofs.lemmas.Grind.{flat_map-append}
use Rattle.std.proofs.lemmas.List.{length-append, take-append-le}
use Rattle.std.proofs.lemmas.List.Elements.{filter-append}
use Rattle.std.proofs.Math.Seq.{take-append-add}
use Rattle.air_record.specs.declared.record.Record.{Record}
use Rattle.test_loop.specs.declared.Mode.{Mode}
use Rattle.test_loop.specs.Items.{Item}
use Rattle.law_run.specs.AnyCalls.Loops.{ComeBack}
use Rattle.promises.specs.Loops.{ArePart, items_due, looped, gone_up, returned, item_count, is_dropped, drop_count}
use Rattle.law_run.proofs.AnyCalls.Adding.{count_then}

-- ---- parts

pub part_same : (xs : List Item) → ArePart xs xs
part_same [] = tt
part_same (x ∷ xs) = inl (refl, part_same xs)

pub part_of_same : (xs ys : List Item) → ys ≡ xs → ArePart xs ys
part_of_same xs ys e = subst (λ (zs : List Item). ArePart xs zs) (sym e) (part_same xs)

pub part_more : (y : Item) (xs ys : List Item) → ArePart xs ys → ArePart xs (y ∷ ys)
part_more y [] ys p = tt
part_more y (x ∷ xs) ys p = inr p

pub part_then : (xs ys zs : List Item) → ArePart xs ys → ArePart ys zs → ArePart xs zs
part_then [] ys zs p q = tt
part_then (x ∷ xs) [] zs p q = absurd p
part_then (x ∷ xs) (y ∷ ys) [] p q = absurd q
part_then (x ∷ xs) (y ∷ ys) (z ∷ zs) (inl (e, p)) (inl (f, q)) = inl (e ∙ f, part_then xs ys zs p q)
part_then (x ∷ xs) (y ∷ ys) (z ∷ zs) (inr p) (inl (f, q)) = inr (part_then (x ∷ xs) ys zs p q)
part_then (x ∷ xs) (y ∷ ys) (z ∷ zs) p (inr q) = inr (part_then (x ∷ xs) (y ∷ ys) zs p q)

pub part_both : (xs ys us vs : List Item) → ArePart xs ys → ArePart us vs → ArePart (xs ++ us) (ys ++ vs)
part_both [] [] us vs p q = q
part_both [] (y ∷ ys) us vs p q = part_more y us (ys ++ vs) (part_both [] ys us vs tt q)
part_both (x ∷ xs) [] us vs p q = absurd p
part_both (x ∷ xs) (y ∷ ys) us vs (inl (e, p)) q = inl (e, part_both xs ys us vs p q)
part_both (x ∷ xs) (y ∷ ys) us vs (inr p) q = inr (part_both (x ∷ xs) ys us vs p q)

part_front : (xs ys zs : List Item) → ArePart (xs ++ ys) zs → ArePart xs zs
part_front xs ys zs p =
    part_then xs (xs ++ ys) zs
    (subst (λ (x : List Item). ArePart x (xs ++ ys)) (append-nil xs) (part_both xs xs [] ys (part_same xs) tt)) p

-- a part, with what follows on the rest of it
pub part_on : (xs ks us rs fs : List Item) → ArePart (xs ++ ks) us → ArePart rs (ks ++ fs)
    → ArePart (xs ++ rs) (us ++ fs)
part_on xs ks us rs fs p q =
    let mid : ArePart (xs ++ rs) (xs ++ (ks ++ fs)) = part_both xs xs rs (ks ++ fs) (part_same xs) q in
    let near : ArePart (xs ++ rs) ((xs ++ ks) ++ fs) =
    subst (λ (z : List Item). ArePart (xs ++ rs) z) (sym (append_assoc xs ks fs)) mid in
    part_then (xs ++ rs) ((xs ++ ks) ++ fs) (us ++ fs) near (part_both (xs ++ ks) us fs fs p (part_same fs))

-- ---- counts by channel

pub on_both : (lcid : ℕ) (xs ys : List Item) → item_count lcid (xs ++ ys) ≡ item_count lcid xs + item_count lcid ys
on_both lcid xs ys = ap (λ (zs : List Item). length zs) (filter-append (λ i. i.lcid == lcid) xs ys)
    ∙ length-append (filter (λ i. i.lcid == lcid) xs) (filter (λ i. i.lcid == lcid) ys)

-- ---- nothing is told

none_at : (all : List Item) (n : ℕ) → ArePart (returned (take n [])) all
none_at all zero = tt
none_at all (suc n) = tt

pub back_none : (mode : Mode) (w v : List Item) → v ≡ w → ComeBack mode w v []
back_none mode w v e = record {
  each = λ n. none_at (w ++ gone_up mode (take n [])) n;
  whole = part_of_same v (w ++ []) (append-nil w ∙ sym e);
  all = λ lcid. let same : item_count lcid v ≡ item_count lcid w = ap (item_count lcid) e in omega (arith, same);
}

-- ---- a record

one_at : (mode : Mode) (w : List Item) (one : Record) (n : ℕ) → ArePart (looped one) (w ++ items_due mode one)
    → ArePart (returned (take n (one ∷ []))) (w ++ gone_up mode (take n (one ∷ [])))
one_at mode w one zero p = tt
one_at mode w one (suc zero) p = rw (append-nil (looped one)) (rw (append-nil (items_due mode one)) p)
one_at mode w one (suc (suc n)) p = rw (append-nil (looped one)) (rw (append-nil (items_due mode one)) p)

pub back_one : (mode : Mode) (w v : List Item) (one : Record) → ArePart (looped one ++ v) (w ++ items_due mode one)
    → ((lcid : ℕ) → item_count lcid w + item_count lcid (items_due mode one) ≡
    (item_count lcid (looped one) + drop_count lcid (one ∷ [])) + item_count lcid v)
    → ComeBack mode w v (one ∷ [])
back_one mode w v one p q = record {
  each = λ n. one_at mode w one n (part_front (looped one) v (w ++ items_due mode one) p);
  whole = rw (append-nil (looped one)) (rw (append-nil (items_due mode one)) p);
  all = λ lcid. rw (append-nil (looped one)) (rw (append-nil (items_due mode one)) (q lcid));
}

-- ---- records behind others

behind : (mode : Mode) (w v u : List Item) (x y : List Record) → ArePart (returned x ++ v) (w ++ gone_up mode x)
    → ArePart (returned y ++ u) (v ++ gone_up mode y)
    → ArePart (returned (x ++ y) ++ u) (w ++ gone_up mode (x ++ y))
behind mode w v u x y p q =
    let a = returned x in
    let b = returned y in
    let f = gone_up mode x in
    let g = gone_up mode y in
    let whole : ArePart (a ++ (b ++ u)) ((w ++ f) ++ g) = part_on a v (w ++ f) (b ++ u) g p q in
    let left : returned (x ++ y) ++ u ≡ a ++ (b ++ u) = ap (λ (z : List Item). z ++ u) (flat_map-append looped x y)
    ∙ append_assoc a b u in
    let right : w ++ gone_up mode (x ++ y) ≡ (w ++ f) ++ g =
    ap (λ (z : List Item). w ++ z) (flat_map-append (items_due mode) x y) ∙ sym (append_assoc w f g) in
    subst (λ (z : List Item). ArePart z (w ++ gone_up mode (x ++ y))) (sym left)
    (subst (λ (z : List Item). ArePart (a ++ (b ++ u)) z) (sym right) whole)

then_at : (mode : Mode) (w v u : List Item) (x y : List Record) (n : ℕ) → ComeBack mode w v x → ComeBack mode v u y
    → ArePart (returned (take n (x ++ y))) (w ++ gone_up mode (take n (x ++ y)))
then_at mode w v u x y n p q = elim (cases_lt (length x) n) [
  | inl above ↦
      let k = n - length x in
      let at : length x + k ≡ n = omega arith in
      let front : take n (x ++ y) ≡ x ++ take k y = ap (λ (i : ℕ). take i (x ++ y)) (sym at) ∙ take-append-add x y k in
      let some : ArePart (returned (take k y) ++ []) (v ++ gone_up mode (take k y)) =
      subst (λ (z : List Item). ArePart z (v ++ gone_up mode (take k y))) (sym (append-nil (returned (take k y))))
      (q.each k) in
      let all : ArePart (returned (x ++ take k y) ++ []) (w ++ gone_up mode (x ++ take k y)) =
      behind mode w v [] x (take k y) p.whole some in
      subst (λ (z : List Record). ArePart (returned z) (w ++ gone_up mode z)) (sym front)
      (subst (λ (z : List Item). ArePart z (w ++ gone_up mode (x ++ take k y)))
      (append-nil (returned (x ++ take k y))) all)
  | inr within ↦ subst (λ (z : List Record). ArePart (returned z) (w ++ gone_up mode z))
      (sym (take-append-le n x y within)) (p.each n)
]

pub back_then : (mode : Mode) (w v u : List Item) (x y : List Record) → ComeBack mode w v x → ComeBack mode v u y
    → ComeBack mode w u (x ++ y)
back_then mode w v u x y p q = record {
  each = λ n. then_at mode w v u x y n p q;
  whole = behind mode w v u x y p.whole q.whole;
  all = λ lcid.
      let came : item_count lcid (returned (x ++ y)) ≡ item_count lcid (returned x) + item_count lcid (returned y) =
      ap (item_count lcid) (flat_map-append looped x y) ∙ on_both lcid (returned x) (returned y) in
      let went : item_count lcid (gone_up mode (x ++ y))
      ≡ item_count lcid (gone_up mode x) + item_count lcid (gone_up mode y) =
      ap (item_count lcid) (flat_map-append (items_due mode) x y) ∙ on_both lcid (gone_up mode x) (gone_up mode y) in
      let lost : drop_count lcid (x ++ y) ≡ drop_count lcid x + drop_count lcid y = count_then (is_dropped lcid) x y in
      omega (arith, came, went, lost, p.all lcid, q.all lcid);
}

-- ---- records that tell of no SDU of the loop

pub record IsSilent (one : Record) : Type 0 where
  pub none_back : looped one ≡ []
  pub none_due : (mode : Mode) → items_due mode one ≡ []
  pub none_lost : (lcid : ℕ) → is_dropped lcid one ≡ false

pub back_silent : (mode : Mode) (w : List Item) (told : List Record) → AllByRecursion IsSilent told
    → ComeBack mode w w told
back_silent mode w [] a = back_none mode w w refl
back_silent mode w (one ∷ more) a =
    let none = a.0.none_back in
    let nothing = a.0.none_due mode in
    let told : ArePart (looped one ++ w) (w ++ items_due mode one) =
    rw none (rw nothing (part_of_same w (w ++ []) (append-nil w))) in
    let count : (lcid : ℕ) → item_count lcid w + item_count lcid (items_due mode one)
    ≡ (item_count lcid (looped one) + drop_count lcid (one ∷ [])) + item_count lcid w =
    λ lcid. rw none (rw nothing (rw (a.0.none_lost lcid) (omega arith))) in
    back_then mode w w w (one ∷ []) more (back_one mode w w one told count) (back_silent mode w more a.1)

-- What waits for the test loop, and what the loop makes of it.
use Rattle.std.proofs.Common.{◌≡◌, ℕ, Bool, true, false, ◌==◌, not, if◌then◌else◌, Option, Some, None, List, [], ◌∷◌}
use Rattle.std.proofs.Common.{◌++◌, length, map, append_assoc, append-nil, refl, ap, sym, subst, ◌∙◌, arith}
use Rattle.std.specs.List.{AllByRecursion}
use Rattle.air_link.specs.Link.{Link, says}
use Rattle.air_link.specs.Loops.{loses, returns_by, returns, returns_all, kept_by, takes, takes_all, loops, pays}
use Rattle.air_record.specs.declared.record.Record.{Record}
use Rattle.air_record.specs.declared.record.Record.TheVariants as records
use Rattle.bearer_types.specs.declared.event.Event.TheVariants.{Drop}
use Rattle.l2_bits.specs.declared.fault.SubmitRefusal.{SubmitRefusal}
use Rattle.l2_node.specs.Finding.{has}
use Rattle.l2_node.specs.Submitting.{refusal}
use Rattle.l2_types.specs.declared.event.Lost.TheVariants as losts
use Rattle.l2_types.specs.declared.side.Side.TheVariants.{Ue}
use Rattle.test_loop.specs.declared.Mode.{Mode}
use Rattle.test_loop.specs.declared.Mode.TheVariants.{Off, A, B}
use Rattle.test_loop.specs.declared.Kept.TheVariants.{Now, Later, Full}
use Rattle.test_loop.specs.Items.{Item, item, cut}
use Rattle.test_loop.specs.Loops.{state, is_on, is_keeping, is_full, kept_answer, after_kept, taken_answer, after_taken}
use Rattle.law_run.specs.AnyCalls.Loops.{ComeBack}
use Rattle.promises.specs.Loops.{ArePart, item_back, item_count, drop_count}
use Rattle.law_run.proofs.AnyCalls.Returning.{part_same, part_of_same, part_more, part_both, on_both, back_none}
use Rattle.law_run.proofs.AnyCalls.Returning.{back_one, back_then, IsSilent, back_silent}

-- ---- what is seen of a link here

pub record Seen : Type 0 where
  pub mode : Mode
  pub kept : List Item
  pub ups : List Item
  pub out : List Record

abbrev pub seen : Link → Seen
seen l = record { mode = l.looping.mode; kept = l.looping.kept; ups = l.ups; out = l.out }

abbrev pub seen_with : List Record → Link → Seen
seen_with more l = record { mode = l.looping.mode; kept = l.looping.kept; ups = l.ups; out = l.out ++ more }

-- the loop rests, and records tell nothing of it
pub record Rests (l m : Link) : Type 0 where
  pub more : List Record
  pub seen_is : seen m ≡ seen_with more l
  pub silent : AllByRecursion IsSilent more

all_both : (x y : List Record) → AllByRecursion IsSilent x → AllByRecursion IsSilent y
    → AllByRecursion IsSilent (x ++ y)
all_both [] y p q = q
all_both (one ∷ x) y p q = (p.0, all_both x y p.1 q)

seen_then : (x y : List Record) (l m n : Link) → seen m ≡ seen_with x l → seen n ≡ seen_with y m
    → seen n ≡ seen_with (x ++ y) l
seen_then x y l m n p q =
    q ∙ ap (λ (s : Seen). record { mode = s.mode; kept = s.kept; ups = s.ups; out = s.out ++ y }) p
    ∙ ap (λ (out : List Record). record { mode = l.looping.mode; kept = l.looping.kept; ups = l.ups; out = out })
    (append_assoc l.out x y)

pub rests_then : (l m n : Link) → Rests l m → Rests m n → Rests l n
rests_then l m n p q = record {
  more = p.more ++ q.more;
  seen_is = seen_then p.more q.more l m n p.seen_is q.seen_is;
  silent = all_both p.more q.more p.silent q.silent;
}

seen_still : (l : Link) → seen l ≡ seen_with [] l
seen_still l =
    ap (λ (out : List Record). record { mode = l.looping.mode; kept = l.looping.kept; ups = l.ups; out = out })
    (sym (append-nil l.out))

pub rests_unseen : (l m : Link) → seen m ≡ seen l → Rests l m
rests_unseen l m e = record { more = []; seen_is = e ∙ seen_still l; silent = tt }

pub rests_says : (one : Record) (l : Link) → IsSilent one → Rests l (says one l)
rests_says one l s = record { more = one ∷ []; seen_is = refl; silent = (s, tt) }

-- ---- from one link to another in a mode

-- the SDUs that may come back: those that are kept, and behind them those that the loop has still to take
abbrev pub waiting : Mode → Link → List Item
waiting mode l = l.looping.kept ++ map (item_back mode) l.ups

-- a mode without a delay keeps none, and where no loop is on none waits
pub record Stands (mode : Mode) (l : Link) : Type 0 where
  pub mode_is : l.looping.mode ≡ mode
  pub none_kept : is_keeping mode ≡ false → l.looping.kept ≡ []
  pub none_waits : is_on mode ≡ false → l.ups ≡ []

pub record Went (mode : Mode) (l m : Link) : Type 0 where
  pub more : List Record
  pub out_is : m.out ≡ l.out ++ more
  pub stands : Stands mode m
  pub come_back : ComeBack mode (waiting mode l) (waiting mode m) more

abbrev pub Goes : Mode → Link → Link → Type 0
Goes mode l m = Stands mode l → Went mode l m

pub goes_then : (mode : Mode) (l m n : Link) → Goes mode l m → Goes mode m n → Goes mode l n
goes_then mode l m n p q s =
    let a = p s in
    let b = q a.stands in
    record {
      more = a.more ++ b.more;
      out_is = b.out_is ∙ ap (λ (x : List Record). x ++ b.more) a.out_is ∙ append_assoc l.out a.more b.more;
      stands = b.stands;
      come_back = back_then mode (waiting mode l) (waiting mode m) (waiting mode n) a.more b.more a.come_back
          b.come_back;
    }

-- where mode and SDUs stay
stands_on : (mode : Mode) (l m : Link) → Stands mode l → m.looping.mode ≡ l.looping.mode
    → m.looping.kept ≡ l.looping.kept → m.ups ≡ l.ups → Stands mode m
stands_on mode l m s e f g = record {
  mode_is = e ∙ s.mode_is;
  none_kept = λ h. f ∙ s.none_kept h;
  none_waits = λ h. g ∙ s.none_waits h;
}

pub goes_resting : (mode : Mode) (l m : Link) → Rests l m → Goes mode l m
goes_resting mode l m r s =
    let same : waiting mode m ≡ waiting mode l = ap (λ (x : Seen). x.kept ++ map (item_back mode) x.ups) r.seen_is in
    record {
      more = r.more;
      out_is = ap (λ (x : Seen). x.out) r.seen_is;
      stands = stands_on mode l m s (ap (λ (x : Seen). x.mode) r.seen_is) (ap (λ (x : Seen). x.kept) r.seen_is)
          (ap (λ (x : Seen). x.ups) r.seen_is);
      come_back = subst (λ (v : List Item). ComeBack mode (waiting mode l) v r.more) (sym same)
          (back_silent mode (waiting mode l) r.more r.silent);
    }

-- ---- SDUs come back, or find no place

-- so many of those that wait go
pub record Brings (is : List Item) (l m : Link) : Type 0 where
  pub more : List Record
  pub seen_is : seen m ≡ seen_with more l
  pub come_back : (mode : Mode) (w : List Item) → ComeBack mode (is ++ w) w more

abbrev dropped : ℕ → Record
dropped lcid = records.Of Ue (Drop lcid losts.Loop)

counted_if : (b : Bool) (i : Item) (one : Record)
    → length (if b then i ∷ [] else []) ≡ length (if b then one ∷ [] else [])
counted_if true i one = refl
counted_if false i one = refl

-- behind those that are kept one is dropped
drops_one : (mode : Mode) (kept w : List Item) (i : Item) (lcid : ℕ) → i.lcid ≡ lcid
    → ComeBack mode (kept ++ (i ∷ w)) (kept ++ w) (dropped lcid ∷ [])
drops_one mode kept w i lcid same =
    let all = kept ++ (i ∷ w) in
    let part : ArePart (kept ++ w) all =
    part_both kept kept w (i ∷ w) (part_same kept) (part_more i w w (part_same w)) in
    back_one mode all (kept ++ w) (dropped lcid)
    (subst (λ (x : List Item). ArePart (kept ++ w) x) (sym (append-nil all)) part)
    (λ k.
    let first = on_both k kept (i ∷ w) in
    let next = on_both k (i ∷ []) w in
    let last = on_both k kept w in
    let one : item_count k (i ∷ []) ≡ drop_count k (dropped lcid ∷ []) =
    ap (λ (x : ℕ). length (if x == k then i ∷ [] else [])) same ∙ counted_if (lcid == k) i (dropped lcid) in
    omega (arith, first, next, last, one))

loses_brings : (i : Item) (lcid : ℕ) (l : Link) → i.lcid ≡ lcid → Brings (i ∷ []) l (loses lcid l)
loses_brings i lcid l same = record {
  more = dropped lcid ∷ [];
  seen_is = refl;
  come_back = λ mode w. drops_one mode [] w i lcid same;
}

returns_by_brings : (r : Option SubmitRefusal) (lcid : ℕ) (octets : List ℕ) (l : Link)
    → Brings (item lcid octets ∷ []) l (returns_by r lcid octets l)
returns_by_brings (Some broken) lcid octets l = loses_brings (item lcid octets) lcid l refl
returns_by_brings None lcid octets l = record {
  more = records.Looped lcid octets ∷ [];
  seen_is = refl;
  come_back = λ mode w.
      let i = item lcid octets in
      back_one mode (i ∷ w) w (records.Looped lcid octets) (part_of_same (i ∷ w) ((i ∷ w) ++ []) (append-nil (i ∷ w)))
      (λ k. let both = on_both k (i ∷ []) w in omega (arith, both));
}

returns_if : (b : Bool) (lcid : ℕ) (octets : List ℕ) (l : Link)
    → Brings (item lcid octets ∷ []) l (if b then returns_by (refusal lcid octets l.ue) lcid octets l
    else loses lcid l)
returns_if true lcid octets l = returns_by_brings (refusal lcid octets l.ue) lcid octets l
returns_if false lcid octets l = loses_brings (item lcid octets) lcid l refl

returns_brings : (lcid : ℕ) (octets : List ℕ) (l : Link) → Brings (item lcid octets ∷ []) l (returns lcid octets l)
returns_brings lcid octets l = returns_if (has lcid l.ue.bearers) lcid octets l

pub returns_all_brings : (is : List Item) (l : Link) → Brings is l (returns_all is l)
returns_all_brings [] l = record { more = []; seen_is = seen_still l; come_back = λ mode w. back_none mode w w refl }
returns_all_brings (i ∷ is) l =
    let m = returns i.lcid i.octets l in
    let n = returns_all is m in
    let p = returns_brings i.lcid i.octets l in
    let q = returns_all_brings is m in
    record {
      more = p.more ++ q.more;
      seen_is = seen_then p.more q.more l m n p.seen_is q.seen_is;
      come_back = λ mode w. back_then mode (i ∷ (is ++ w)) (is ++ w) w p.more q.more (p.come_back mode (is ++ w))
          (q.come_back mode w);
    }

-- ---- SDUs are taken

pub record Takes (mode : Mode) (is : List Item) (l m : Link) : Type 0 where
  pub more : List Record
  pub out_is : m.out ≡ l.out ++ more
  pub ups_is : m.ups ≡ l.ups
  pub stands : Stands mode m
  pub come_back : (w : List Item)
      → ComeBack mode (l.looping.kept ++ (map (item_back mode) is ++ w)) (m.looping.kept ++ w) more

-- one comes back at once, where none is kept
takes_now : (mode : Mode) (i : Item) (l m : Link) → Stands mode l → l.looping.kept ≡ []
    → Brings (item_back mode i ∷ []) l m → Takes mode (i ∷ []) l m
takes_now mode i l m s none b =
    let kept : m.looping.kept ≡ l.looping.kept = ap (λ (x : Seen). x.kept) b.seen_is in
    record {
      more = b.more;
      out_is = ap (λ (x : Seen). x.out) b.seen_is;
      ups_is = ap (λ (x : Seen). x.ups) b.seen_is;
      stands = stands_on mode l m s (ap (λ (x : Seen). x.mode) b.seen_is) kept (ap (λ (x : Seen). x.ups) b.seen_is);
      come_back = λ w.
          subst (λ (x : List Item). ComeBack mode (x ++ (item_back mode i ∷ w)) (m.looping.kept ++ w) b.more) (sym none)
          (subst (λ (x : List Item). ComeBack mode (item_back mode i ∷ w) (x ++ w) b.more) (sym (kept ∙ none))
          (b.come_back mode w));
    }

-- one is kept, or finds no place
takes_later : (full : Bool) (delay left after : ℕ) (kept : List Item) (i : Item) (l : Link)
    → is_keeping (B delay) ≡ true
    → Takes (B delay) (i ∷ []) (record l { looping = state (B delay) kept left })
    (kept_by (if full then Full else Later) i.lcid
    (record l { looping = state (B delay) (if full then kept else kept ++ i ∷ []) after }))
takes_later true delay left after kept i l keeps = record {
  more = dropped i.lcid ∷ [];
  out_is = refl;
  ups_is = refl;
  stands = record {
    mode_is = refl;
    none_kept = λ h. let no : true ≡ false = sym keeps ∙ h in cc;
    none_waits = λ h. cc;
  };
  come_back = λ w. drops_one (B delay) kept w i i.lcid refl;
}
takes_later false delay left after kept i l keeps = record {
  more = [];
  out_is = sym (append-nil l.out);
  ups_is = refl;
  stands = record {
    mode_is = refl;
    none_kept = λ h. let no : true ≡ false = sym keeps ∙ h in cc;
    none_waits = λ h. cc;
  };
  come_back = λ w. back_none (B delay) (kept ++ (i ∷ w)) ((kept ++ i ∷ []) ++ w) (append_assoc kept (i ∷ []) w);
}

takes_delayed : (b : Bool) (delay left : ℕ) (kept : List Item) (i : Item) (l : Link) → (delay == 0) ≡ b
    → (is_keeping (B delay) ≡ false → kept ≡ [])
    → Takes (B delay) (i ∷ []) (record l { looping = state (B delay) kept left })
    (kept_by (if b then Now i.octets else kept_answer kept) i.lcid
    (record l {
      looping = if b then state (B delay) kept left
          else after_kept delay i (state (B delay) kept left);
    }))
takes_delayed true delay left kept i l e none =
    let m : Link = record l { looping = state (B delay) kept left } in
    takes_now (B delay) i m (returns i.lcid i.octets m)
    (record { mode_is = refl; none_kept = none; none_waits = λ h. cc }) (none (ap not e))
    (returns_brings i.lcid i.octets m)
takes_delayed false delay left kept i l e none =
    takes_later (is_full kept) delay left (if length kept == 0 then delay else left) kept i l (ap not e)

takes_in : (mode : Mode) (left : ℕ) (kept : List Item) (i : Item) (l : Link) → is_on mode ≡ true
    → (is_keeping mode ≡ false → kept ≡ [])
    → Takes mode (i ∷ []) (record l { looping = state mode kept left })
    (takes i (record l { looping = state mode kept left }))
unfolding taken_answer after_taken
takes_in Off left kept i l on' none = cc
takes_in (A size) left kept i l on' none =
    let m : Link = record l { looping = state (A size) kept left } in
    let octets = cut i.octets size in
    takes_now (A size) i m (returns i.lcid octets m)
    (record { mode_is = refl; none_kept = none; none_waits = λ h. cc }) (none refl)
    (returns_brings i.lcid octets m)
takes_in (B delay) left kept i l on' none = takes_delayed (delay == 0) delay left kept i l refl none

takes_one : (mode : Mode) (i : Item) (l : Link) → is_on mode ≡ true → Stands mode l → Takes mode (i ∷ []) l (takes i l)
takes_one mode i l on' s =
    subst (λ (x : Mode). Takes x (i ∷ []) l (takes i l)) s.mode_is
    (takes_in l.looping.mode l.looping.left l.looping.kept i l (ap is_on s.mode_is ∙ on')
    (λ h. s.none_kept (ap is_keeping (sym s.mode_is) ∙ h)))

takes_every : (mode : Mode) (is : List Item) (l : Link) → is_on mode ≡ true → Stands mode l
    → Takes mode is l (takes_all is l)
takes_every mode [] l on' s = record {
  more = [];
  out_is = sym (append-nil l.out);
  ups_is = refl;
  stands = s;
  come_back = λ w. back_none mode (l.looping.kept ++ w) (l.looping.kept ++ w) refl;
}
takes_every mode (i ∷ is) l on' s =
    let m = takes i l in
    let n = takes_all is m in
    let p = takes_one mode i l on' s in
    let q = takes_every mode is m on' p.stands in
    record {
      more = p.more ++ q.more;
      out_is = q.out_is ∙ ap (λ (x : List Record). x ++ q.more) p.out_is ∙ append_assoc l.out p.more q.more;
      ups_is = q.ups_is ∙ p.ups_is;
      stands = q.stands;
      come_back = λ w.
          let rest = map (item_back mode) is ++ w in
          back_then mode (l.looping.kept ++ (item_back mode i ∷ rest)) (m.looping.kept ++ rest) (n.looping.kept ++ w)
          p.more q.more (p.come_back rest) (q.come_back w);
    }

-- where no loop is on none is taken
takes_waiting : (b : Bool) (mode : Mode) (is : List Item) (l : Link) → is_on mode ≡ b → (b ≡ false → is ≡ [])
    → Stands mode l → Takes mode is l (takes_all is l)
takes_waiting true mode is l e none s = takes_every mode is l e s
takes_waiting false mode is l e none s =
    subst (λ (x : List Item). Takes mode x l (takes_all x l)) (sym (none refl))
    (record {
      more = [];
      out_is = sym (append-nil l.out);
      ups_is = refl;
      stands = s;
      come_back = λ w. back_none mode (l.looping.kept ++ w) (l.looping.kept ++ w) refl;
    })

-- ---- the stages

loops_take : (mode : Mode) (l : Link) → Stands mode l → Takes mode l.ups (record l { ups = [] }) (loops l)
unfolding loops
loops_take mode l s =
    takes_waiting (is_on mode) mode l.ups (record l { ups = [] }) refl s.none_waits
    (record { mode_is = s.mode_is; none_kept = s.none_kept; none_waits = λ h. refl })

pub loops_go : (mode : Mode) (l : Link) → Goes mode l (loops l)
loops_go mode l s =
    let m = loops l in
    let t = loops_take mode l s in
    let before : map (item_back mode) l.ups ++ [] ≡ map (item_back mode) l.ups =
    append-nil (map (item_back mode) l.ups) in
    record {
      more = t.more;
      out_is = t.out_is;
      stands = t.stands;
      come_back =
          subst (λ (x : List Item). ComeBack mode (waiting mode l) (m.looping.kept ++ map (item_back mode) x) t.more)
          (sym t.ups_is)
          (subst (λ (x : List Item). ComeBack mode (l.looping.kept ++ x) (m.looping.kept ++ []) t.more) before
          (t.come_back []));
    }

pub loops_empty : (mode : Mode) (l : Link) → Stands mode l → (loops l).ups ≡ []
loops_empty mode l s = (loops_take mode l s).ups_is

-- all that is kept comes back
pub record PaysAll (mode : Mode) (l m : Link) : Type 0 where
  pub more : List Record
  pub seen_is : seen m ≡ record { mode = mode; kept = []; ups = l.ups; out = l.out ++ more }
  pub come_back : ComeBack mode (waiting mode l) (map (item_back mode) l.ups) more

pub pays_all : (mode : Mode) (left : ℕ) (l : Link)
    → PaysAll mode l (returns_all l.looping.kept (record l { looping = state mode [] left }))
pays_all mode left l =
    let r = returns_all_brings l.looping.kept (record l { looping = state mode [] left }) in
    record { more = r.more; seen_is = r.seen_is; come_back = r.come_back mode (map (item_back mode) l.ups) }

pays_if : (b : Bool) (mode : Mode) (l : Link)
    → Goes mode l (returns_all (if b then l.looping.kept else [])
    (record l { looping = if b then record l.looping { kept = [] } else l.looping }))
pays_if false mode l s = goes_resting mode l l (rests_unseen l l refl) s
pays_if true mode l s =
    let m = returns_all l.looping.kept (record l { looping = state l.looping.mode [] l.looping.left }) in
    let r = returns_all_brings l.looping.kept (record l { looping = state l.looping.mode [] l.looping.left }) in
    let kept : m.looping.kept ≡ [] = ap (λ (x : Seen). x.kept) r.seen_is in
    let after : waiting mode m ≡ map (item_back mode) l.ups =
    ap (λ (x : Seen). x.kept ++ map (item_back mode) x.ups) r.seen_is in
    record {
      more = r.more;
      out_is = ap (λ (x : Seen). x.out) r.seen_is;
      stands = record {
        mode_is = ap (λ (x : Seen). x.mode) r.seen_is ∙ s.mode_is;
        none_kept = λ h. kept;
        none_waits = λ h. ap (λ (x : Seen). x.ups) r.seen_is ∙ s.none_waits h;
      };
      come_back = subst (λ (v : List Item). ComeBack mode (waiting mode l) v r.more) (sym after)
          (r.come_back mode (map (item_back mode) l.ups));
    }

pub pays_go : (mode : Mode) (l : Link) → Goes mode l (pays l)
unfolding pays
pays_go mode l = pays_if (l.looping.left == 0) mode l

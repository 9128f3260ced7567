-- The stages of a link in which nothing goes up on LCID 0, and no block arrives.
use Rattle.std.proofs.Common.{◌≡◌, ℕ, ◌==◌, Bool, true, false, cond, if◌then◌else◌, Option, Some, None, List, [], ◌∷◌}
use Rattle.std.proofs.Common.{◌++◌, map, append_assoc, append-nil, refl, ap, sym, subst, ◌∙◌}
use Rattle.std.specs.List.{filter}
use Rattle.std.proofs.lemmas.Grind.{flat_map-append}
use Rattle.std.proofs.lemmas.List.{map-append}
use Rattle.std.proofs.lemmas.List.Elements.{filter-append}
use Rattle.air_link.specs.Downlink.{visits as visits_process, builds}
use Rattle.air_link.specs.Link.{Link, end_of, with_end}
use Rattle.bearer_types.specs.Sides.{other}
use Rattle.air_link.specs.Loops.{loses, returns_by, returns, returns_all, kept_by, takes, takes_all, loops, owed, paid}
use Rattle.air_link.specs.Loops.{pays}
use Rattle.air_link.specs.Telling.{tells_all}
use Rattle.air_link.specs.Ttis.{begins, tells_sleep, grows, ticks, times, keeps_first, timed}
use Rattle.air_record.specs.declared.record.Record.{Record}
use Rattle.air_record.specs.declared.record.Record.TheVariants as records
use Rattle.bearer_types.specs.declared.event.Event.{Event}
use Rattle.bearer_types.specs.declared.event.Event.TheVariants as events
use Rattle.harq.specs.declared.sender.Order.{Order}
use Rattle.l2_bits.specs.declared.fault.SubmitRefusal.{SubmitRefusal}
use Rattle.l2_node.specs.Building.{building}
use Rattle.l2_node.specs.End.{End}
use Rattle.l2_node.specs.Finding.{has}
use Rattle.l2_node.specs.Hearing.{ticked}
use Rattle.l2_node.specs.Submitting.{refusal}
use Rattle.l2_types.specs.declared.side.Side.{Side}
use Rattle.l2_types.specs.declared.side.Side.TheVariants.{Nb, Ue}
use Rattle.test_loop.specs.declared.Kept.{Kept}
use Rattle.test_loop.specs.declared.Kept.TheVariants.{Now, Later, Full}
use Rattle.test_loop.specs.Items.{Item}
use Rattle.test_loop.specs.Loops.{is_on, is_keeping, taken_answer, after_taken, after_tick}
use Rattle.promises.specs.Records.{is_up, is_of_air, sdu_of, ups_in, sent_last}
use Rattle.law_run.specs.AnyCalls.Ends.{GoesOn}
use Rattle.promises.specs.Zero.{got_at, arrived, carried, brought}
use Rattle.law_run.proofs.AnyCalls.Bringing.{Stands, ticked_others, stands_on}
use Rattle.law_run.proofs.AnyCalls.Going.{Seen, told_seen}
use Rattle.law_run.proofs.AnyCalls.Handing.{building_none}
use Rattle.law_run.proofs.AnyCalls.Others.{zeros, AreOthers, none_up}

-- ---- records

pub ups_then : (side : Side) (xs ys : List Record) → ups_in side 0 (xs ++ ys) ≡ ups_in side 0 xs ++ ups_in side 0 ys
ups_then side xs ys = ap (map sdu_of) (filter-append (is_up side 0) xs ys)
    ∙ map-append sdu_of (filter (is_up side 0) xs) (filter (is_up side 0) ys)

-- the block that was sent last behind records
abbrev pub sent_behind : List Record → List ℕ → List ℕ
sent_behind [] sent = sent
sent_behind (one ∷ xs) sent = sent_behind xs (sent_last one sent)

pub arrived_then : (side : Side) (sent : List ℕ) (xs ys : List Record)
    → arrived side sent (xs ++ ys) ≡ arrived side sent xs ++ arrived side (sent_behind xs sent) ys
arrived_then side sent [] ys = refl
arrived_then side sent (one ∷ xs) ys =
    ap (λ (x : List (List ℕ)). got_at side sent one ++ x) (arrived_then side (sent_last one sent) xs ys)
    ∙ sym (append_assoc (got_at side sent one) (arrived side (sent_last one sent) xs)
    (arrived side (sent_behind xs (sent_last one sent)) ys))

pub none_brought : (known : Bool) (side : Side) → brought known side [] ≡ []
none_brought true side = refl
none_brought false side = refl

brought_then : (known : Bool) (side : Side) (a b : List (List ℕ))
    → brought known side (a ++ b) ≡ brought known side a ++ brought known side b
brought_then true side a b = flat_map-append (carried side) a b
brought_then false side a b = refl

-- where both parts hand up what their blocks carry, the whole does
pub ups_both : (known : Bool) (side : Side) (xs ys : List Record)
    → ((sent : List ℕ) → ups_in side 0 xs ≡ brought known side (arrived side sent xs))
    → ((sent : List ℕ) → ups_in side 0 ys ≡ brought known side (arrived side sent ys)) → (sent : List ℕ)
    → ups_in side 0 (xs ++ ys) ≡ brought known side (arrived side sent (xs ++ ys))
ups_both known side xs ys p q sent =
    let next = sent_behind xs sent in
    ups_then side xs ys ∙ ap (λ (x : List (List ℕ)). x ++ ups_in side 0 ys) (p sent)
    ∙ ap (λ (x : List (List ℕ)). brought known side (arrived side sent xs) ++ x) (q next)
    ∙ sym (brought_then known side (arrived side sent xs) (arrived side next ys))
    ∙ ap (brought known side) (sym (arrived_then side sent xs ys))

-- what isn't told of the air tells of no block
not_of_air : (side : Side) (sent : List ℕ) (one : Record) → is_of_air one ≡ false
    → (got_at side sent one ≡ []) × (sent_last one sent ≡ sent)
not_of_air side sent (records.Block direction process fresh version octets) h = let no : true ≡ false = h in cc
not_of_air side sent (records.Air direction what heard) h = let no : true ≡ false = h in cc
not_of_air side sent one h = (refl, refl)

skip_by : (b : Bool) (side : Side) (sent : List ℕ) (one : Record) (xs ys : List Record) → is_of_air one ≡ b
    → cond b (one ∷ filter is_of_air xs) (filter is_of_air xs) ≡ []
    → (filter is_of_air xs ≡ [] → arrived side sent (xs ++ ys) ≡ arrived side sent ys)
    → arrived side sent (one ∷ (xs ++ ys)) ≡ arrived side sent ys
skip_by true side sent one xs ys e none rest = let no : one ∷ filter is_of_air xs ≡ [] = none in cc
skip_by false side sent one xs ys e none rest =
    let n = not_of_air side sent one e in
    ap (λ (x : List (List ℕ)). x ++ arrived side (sent_last one sent) (xs ++ ys)) n.0
    ∙ ap (λ (x : List ℕ). arrived side x (xs ++ ys)) n.1 ∙ rest none

pub skip : (side : Side) (sent : List ℕ) (xs ys : List Record) → filter is_of_air xs ≡ []
    → arrived side sent (xs ++ ys) ≡ arrived side sent ys
skip side sent [] ys none = refl
skip side sent (one ∷ xs) ys none = skip_by (is_of_air one) side sent one xs ys refl none (skip side sent xs ys)

-- ---- what an end tells, as records

pub ups_by : (b : Bool) (one : Record) (rest : List Record) (zs : List (List ℕ)) → map sdu_of rest ≡ zs
    → map sdu_of (cond b (one ∷ rest) rest) ≡ (if b then sdu_of one ∷ [] else []) ++ zs
ups_by true one rest zs e = ap (λ (x : List (List ℕ)). sdu_of one ∷ x) e
ups_by false one rest zs e = e

pub own_ups : (side : Side) (es : List Event) → ups_in side 0 (map (records.Of side) es) ≡ zeros es
own_ups side [] = refl
own_ups Nb (events.Up lcid octets ∷ es) =
    ups_by (lcid == 0) (records.Of Nb (events.Up lcid octets)) (filter (is_up Nb 0) (map (records.Of Nb) es))
    (zeros es) (own_ups Nb es)
own_ups Ue (events.Up lcid octets ∷ es) =
    ups_by (lcid == 0) (records.Of Ue (events.Up lcid octets)) (filter (is_up Ue 0) (map (records.Of Ue) es))
    (zeros es) (own_ups Ue es)
own_ups side (e ∷ es) = own_ups side es

pub other_ups : (side : Side) (es : List Event) → ups_in (other side) 0 (map (records.Of side) es) ≡ []
other_ups side [] = refl
other_ups Nb (events.Up lcid octets ∷ es) = other_ups Nb es
other_ups Ue (events.Up lcid octets ∷ es) = other_ups Ue es
other_ups side (e ∷ es) = other_ups side es

pub told_arrives : (s side : Side) (sent : List ℕ) (es : List Event) → arrived side sent (map (records.Of s) es) ≡ []
told_arrives s side sent [] = refl
told_arrives s side sent (e ∷ es) = told_arrives s side sent es

told_none : (s side : Side) (es : List Event) → AreOthers es → ups_in side 0 (map (records.Of s) es) ≡ []
told_none Nb Nb es none = own_ups Nb es ∙ none
told_none Nb Ue es none = other_ups Nb es
told_none Ue Nb es none = other_ups Ue es
told_none Ue Ue es none = own_ups Ue es ∙ none

-- ---- a stage in which nothing goes up on LCID 0, and nothing arrives

pub record Still (l m : Link) : Type 0 where
  pub more : List Record
  pub out_is : m.out ≡ l.out ++ more
  pub ups : (side : Side) → ups_in side 0 more ≡ []
  pub none : (side : Side) (sent : List ℕ) → arrived side sent more ≡ []

pub still_then : (l m n : Link) → Still l m → Still m n → Still l n
still_then l m n p q = record {
  more = p.more ++ q.more;
  out_is = q.out_is ∙ ap (λ (x : List Record). x ++ q.more) p.out_is ∙ append_assoc l.out p.more q.more;
  ups = λ side. ups_then side p.more q.more ∙ ap (λ (x : List (List ℕ)). x ++ ups_in side 0 q.more) (p.ups side)
      ∙ q.ups side;
  none = λ side sent. arrived_then side sent p.more q.more
      ∙ ap (λ (x : List (List ℕ)). x ++ arrived side (sent_behind p.more sent) q.more) (p.none side sent)
      ∙ q.none side (sent_behind p.more sent);
}

pub still_unseen : (l m : Link) → m.out ≡ l.out → Still l m
still_unseen l m e = record {
  more = [];
  out_is = e ∙ sym (append-nil l.out);
  ups = λ side. refl;
  none = λ side sent. refl;
}

pub still_says : (one : Record) (l m : Link) → m.out ≡ l.out ++ one ∷ []
    → ((side : Side) → ups_in side 0 (one ∷ []) ≡ []) → ((side : Side) (sent : List ℕ) → got_at side sent one ≡ [])
    → Still l m
still_says one l m e ups none =
    record {
      more = one ∷ [];
      out_is = e;
      ups = ups;
      none = λ side sent. ap (λ (x : List (List ℕ)). x ++ []) (none side sent);
    }

pub told_out : (side : Side) (es : List Event) (l : Link)
    → (tells_all side es l).out ≡ l.out ++ map (records.Of side) es
told_out side es l = ap (λ (s : Seen). s.out) (told_seen side es l)

pub still_tells : (s : Side) (es : List Event) (l : Link) → AreOthers es → Still l (tells_all s es l)
still_tells s es l others = record {
  more = map (records.Of s) es;
  out_is = told_out s es l;
  ups = λ side. told_none s side es others;
  none = λ side sent. told_arrives s side sent es;
}

pub still_end : (side : Side) (e : End) (l : Link) → Still l (with_end side e l)
still_end Nb e l = still_unseen l (with_end Nb e l) refl
still_end Ue e l = still_unseen l (with_end Ue e l) refl

-- ---- the test loop

loses_still : (lcid : ℕ) (l : Link) → Still l (loses lcid l)
loses_still lcid l = still_says _ l (loses lcid l) refl (λ side. refl) (λ side sent. refl)

returns_by_still : (r : Option SubmitRefusal) (lcid : ℕ) (octets : List ℕ) (l : Link)
    → Still l (returns_by r lcid octets l)
returns_by_still (Some broken) lcid octets l = loses_still lcid l
returns_by_still None lcid octets l =
    still_says (records.Looped lcid octets) l (returns_by None lcid octets l) refl (λ side. refl) (λ side sent. refl)

returns_if : (b : Bool) (lcid : ℕ) (octets : List ℕ) (l : Link)
    → Still l (if b then returns_by (refusal lcid octets l.ue) lcid octets l else loses lcid l)
returns_if true lcid octets l = returns_by_still (refusal lcid octets l.ue) lcid octets l
returns_if false lcid octets l = loses_still lcid l

returns_still : (lcid : ℕ) (octets : List ℕ) (l : Link) → Still l (returns lcid octets l)
returns_still lcid octets l = returns_if (has lcid l.ue.bearers) lcid octets l

returns_all_still : (is : List Item) (l : Link) → Still l (returns_all is l)
returns_all_still [] l = still_unseen l l refl
returns_all_still (i ∷ is) l = let m = returns i.lcid i.octets l in
    still_then l m (returns_all is m) (returns_still i.lcid i.octets l) (returns_all_still is m)

kept_still : (k : Kept) (lcid : ℕ) (l : Link) → Still l (kept_by k lcid l)
kept_still (Now octets) lcid l = returns_still lcid octets l
kept_still Later lcid l = still_unseen l l refl
kept_still Full lcid l = loses_still lcid l

takes_if : (b : Bool) (i : Item) (l : Link)
    → Still l (if b then kept_by (taken_answer l.looping i.octets) i.lcid
    (record l { looping = after_taken l.looping i }) else l)
takes_if true i l =
    let m : Link = record l { looping = after_taken l.looping i } in
    let k = taken_answer l.looping i.octets in
    still_then l m (kept_by k i.lcid m) (still_unseen l m refl) (kept_still k i.lcid m)
takes_if false i l = still_unseen l l refl

takes_all_still : (is : List Item) (l : Link) → Still l (takes_all is l)
takes_all_still [] l = still_unseen l l refl
takes_all_still (i ∷ is) l = let m = takes i l in
    still_then l m (takes_all is m) (takes_if (is_on l.looping.mode) i l) (takes_all_still is m)

pub loops_still : (l : Link) → Still l (loops l)
unfolding loops
loops_still l = let m : Link = record l { ups = [] } in
    still_then l m (takes_all l.ups m) (still_unseen l m refl) (takes_all_still l.ups m)

pub pays_still : (l : Link) → Still l (pays l)
unfolding pays
pays_still l =
    let m : Link = record l { looping = paid l.looping } in
    let is = owed l.looping in
    still_then l m (returns_all is m) (still_unseen l m refl) (returns_all_still is m)

-- ---- both ends as they stand

pub record Stood (known : Side → Bool) (l : Link) : Type 0 where
  pub nb : Stands (known Nb) Nb l.nb
  pub ue : Stands (known Ue) Ue l.ue

pub stood_at : (known : Side → Bool) (side : Side) (l : Link) → Stood known l → Stands (known side) side (end_of side l)
stood_at known Nb l s = s.nb
stood_at known Ue l s = s.ue

pub stood_on : (known : Side → Bool) (blocks : List Record) (l m : Link) → GoesOn blocks l m → Stood known l
    → Stood known m
stood_on known blocks l m g s =
    record {
      nb = stands_on (known Nb) Nb g.more l.nb m.nb g.nb s.nb;
      ue = stands_on (known Ue) Ue g.more l.ue m.ue g.ue s.ue;
    }

-- ---- timers

times_still : (known : Bool) (side : Side) (l : Link) → Stands known side (end_of side l) → Still l (times side l)
times_still known side l s =
    let es = (ticked (end_of side l)).events in
    let m = ticks side l in
    let n = tells_all side es m in
    still_then l n (grows side n)
    (still_then l m n (still_end side _ l) (still_tells side es m (ticked_others known side (end_of side l) s)))
    (still_end side _ n)

keeps_if : (b : Bool) (l : Link) → Still l (if b then loops l else l)
keeps_if true l = loops_still l
keeps_if false l = still_unseen l l refl

-- the base station's timers leave the terminal as it is
pub timed_still : (known : Side → Bool) (l : Link) → Stood known l → Still l (timed l)
unfolding timed
timed_still known l s =
    let j : Link = record l { looping = after_tick l.looping } in
    let m = times Nb j in
    let n = times Ue m in
    let o = keeps_first n in
    let ue : m.ue ≡ l.ue = ap (λ (x : Seen). x.ue) (told_seen Nb (ticked l.nb).events (ticks Nb j)) in
    let to_m = still_then l j m (still_unseen l j refl) (times_still (known Nb) Nb j s.nb) in
    let to_n =
    still_then l m n to_m
    (times_still (known Ue) Ue m (subst (λ (e : End). Stands (known Ue) Ue e) (sym ue) s.ue)) in
    still_then l o (pays o) (still_then l n o to_n (keeps_if (is_keeping n.looping.mode) n)) (pays_still o)

pub sleep_still : (asleep : Bool) (l : Link) → Still l (tells_sleep asleep l)
sleep_still true l = still_says records.Sleep l (tells_sleep true l) refl (λ side. refl) (λ side sent. refl)
sleep_still false l = still_unseen l l refl

pub begins_still : (l : Link) → Still l (begins l)
begins_still l = still_says (records.Tti l.ttis) l (begins l) refl (λ side. refl) (λ side sent. refl)

pub builds_still : (side : Side) (t grant : ℕ) (order : Order) (l : Link) → Still l (builds side t grant order l)
builds_still side t grant order l =
    let e = end_of side l in
    let m = visits_process side t grant order l in
    still_then l m (builds side t grant order l) (still_end side _ l)
    (still_tells side (building t grant order e) m
    (none_up (building t grant order e) (building_none t grant order e)))

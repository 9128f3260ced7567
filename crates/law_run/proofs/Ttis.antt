-- What a TTI adds, with further calls behind it, and what a drain adds.
use Rattle.std.proofs.Common.{◌≡◌, ℕ, zero, suc, ◌+◌, Bool, true, false, ◌||◌, List, [], ◌∷◌, ◌++◌, length, append-nil}
use Rattle.std.proofs.Common.{append_assoc, refl, ap, sym, arith, subst, ◌∙◌}
use Rattle.std.specs.List.{filter, list_any}
use Rattle.std.proofs.lemmas.List.Elements.{filter-append}
use Rattle.air_link.specs.Draining.{drain_tti, carried, receivers_expire, is_drained}
use Rattle.air_record.specs.Outcomes.{intact, missed}
use Rattle.air_link.specs.Link.{Link}
use Rattle.air_record.specs.declared.line.Outcome.{Outcome}
use Rattle.air_record.specs.declared.record.Record.{Record}
use Rattle.air_record.specs.declared.record.Record.TheVariants as records
use Rattle.air_run.specs.Draining.{shown, Drained, at_once, behind, ttis, senders_unless, round, left_by, done_by}
use Rattle.air_run.specs.Draining.{round_told, rounds, budget, drained}
use Rattle.l2_types.specs.declared.side.Side.TheVariants.{Nb, Ue}
use Rattle.law_run.specs.AnyCalls.Calls.{ReceiversExpire, SendersExpire}
use Rattle.law_run.specs.AnyCalls.Counts.{ups, loopeds, Grows, is_fail, gives_up, AreMarked}
use Rattle.promises.specs.Records.{is_up, is_looped, is_of_run, is_of_air}
use Rattle.air_link.specs.Downlink.{down_order}
use Rattle.harq.specs.Receiving.{grant_ndi}
use Rattle.harq.specs.Sending.{ndi_of}
use Rattle.law_run.specs.AnyCalls.Deeds.{TakesTurn, came_of, Answers, up_ordered, Entities, entities}
use Rattle.law_run.specs.AnyCalls.Told.{Tells, Adds, AddsTti}
use Rattle.promises.specs.Air.{sleeping, numbered, FliesIntact, InTurn}
use Rattle.law_run.proofs.AnyCalls.Adding.{stays, tells_then, same_grows, grows_then, count_then, same_marked}
use Rattle.law_run.proofs.AnyCalls.Adding.{marked_then, any_then}
use Rattle.law_run.proofs.AnyCalls.Calling.{calls_adds}
use Rattle.law_run.proofs.AnyCalls.Leaving.{calls_leave}
use Rattle.law_run.proofs.AnyCalls.Passing.{drain_adds}
use Rattle.law_run.proofs.Records.{numbered_then}
use Rattle.law_run.proofs.Carrying.{KeepsBoth, both_then, both_still, both_turn}

-- ---- a TTI, and what stands behind it in the same line

tti_then : (asleep : Bool) (up_grant : ℕ) (up : Outcome) (down_grant : ℕ) (down : Outcome) (l m n : Link)
    → AddsTti asleep up_grant up down_grant down l m → Adds [] m n → entities n ≡ entities m
    → AddsTti asleep up_grant up down_grant down l n
tti_then asleep up_grant up down_grant down l m n a b rests =
    let flown = sleeping asleep ++ (a.downward ++ a.upward) in
    record {
      more = a.more ++ b.more;
      downward = a.downward;
      upward = a.upward;
      out_is = b.out_is ∙ ap (λ (x : List Record). x ++ b.more) a.out_is
          ∙ append_assoc l.out (records.Tti l.ttis ∷ a.more) b.more;
      ttis_is = b.ttis_is ∙ a.ttis_is;
      told = subst (λ (x : List Record). Tells (a.more ++ b.more) x l n) (append-nil flown)
          (tells_then a.more b.more flown [] l m n a.told b.told);
      down_is = a.down_is;
      up_is = a.up_is;
      down_turn =
          subst (λ (e : Entities). TakesTurn l.ttis (down_order down_grant) l.nb.sender e.nb.sender a.downward)
          (sym rests) a.down_turn;
      down_answer =
          λ eight. subst (λ (e : Entities). Answers l.ttis (ndi_of e.nb.sender l.ttis) (came_of a.downward)
          l.ue.receiver e.ue.receiver) (sym rests) (a.down_answer eight);
      up_turn =
          subst
          (λ (e : Entities). TakesTurn l.ttis
          (up_ordered up_grant (missed asleep up) (grant_ndi l.nb.receiver l.ttis)) l.ue.sender e.ue.sender a.upward)
          (sym rests) a.up_turn;
      up_heard = ap (λ (e : Entities). e.nb.receiver) rests ∙ a.up_heard;
    }

senders_add : (b : Bool) (l : Link) → Adds [] l (senders_unless b l)
senders_add true l = stays l l refl
senders_add false l = calls_adds SendersExpire l

senders_rest : (b : Bool) (l : Link) → entities (senders_unless b l) ≡ entities l
senders_rest true l = refl
senders_rest false l = calls_leave SendersExpire l

pub round_adds : (grant : ℕ) (l : Link) → AddsTti false grant intact grant intact l (round grant l)
round_adds grant l =
    let m = drain_tti grant l in
    let n = receivers_expire m in
    let to_n = tti_then false grant intact grant intact l m n (drain_adds grant l) (calls_adds ReceiversExpire m)
    (calls_leave ReceiversExpire m) in
    tti_then false grant intact grant intact l n (senders_unless (carried m) n) to_n (senders_add (carried m) n)
    (senders_rest (carried m) n)

-- ---- a part of a drain

-- so many TTIs
pub record DrainAdds (count grant : ℕ) (l : Link) (d : Drained) : Type 0 where
  pub nothing : d.link.out ≡ []
  pub nb_delivered : Grows (λ k. ups Nb k d.journal) l.up.delivered d.link.up.delivered
  pub ue_delivered : Grows (λ k. ups Ue k d.journal) l.down.delivered d.link.down.delivered
  pub nb_submitted : d.link.down.submitted ≡ l.down.submitted
  pub ue_submitted : Grows (λ k. loopeds k d.journal) l.up.submitted d.link.up.submitted
  pub nb_failed : AreMarked (λ k. gives_up Nb k d.journal) l.down.failed d.link.down.failed
  pub ue_failed : AreMarked (λ k. gives_up Ue k d.journal) l.up.failed d.link.up.failed
  pub ttis_is : d.link.ttis ≡ l.ttis + count
  pub numbers : filter is_of_run d.journal ≡ numbered l.ttis count
  pub flown : InTurn (λ n. FliesIntact n grant) l.ttis count (filter is_of_air d.journal)
  pub kept : KeepsBoth false (entities l) (entities d.link) d.journal

none_adds : (grant : ℕ) (l : Link) → l.out ≡ [] → DrainAdds 0 grant l (at_once l)
none_adds grant l nothing = record {
  nothing = nothing;
  nb_delivered = same_grows (λ k. 0) l.up.delivered l.up.delivered refl (λ k. refl);
  ue_delivered = same_grows (λ k. 0) l.down.delivered l.down.delivered refl (λ k. refl);
  nb_submitted = refl;
  ue_submitted = same_grows (λ k. 0) l.up.submitted l.up.submitted refl (λ k. refl);
  nb_failed = same_marked (λ k. false) l.down.failed l.down.failed refl (λ k. refl);
  ue_failed = same_marked (λ k. false) l.up.failed l.up.failed refl (λ k. refl);
  ttis_is = omega arith;
  numbers = refl;
  flown = refl;
  kept = both_still false (entities l) [] refl refl;
}

-- a TTI before others
first_adds : (n done grant : ℕ) (l m : Link) (d : Drained) → l.out ≡ [] → AddsTti false grant intact grant intact l m
    → DrainAdds n grant (shown m) d → DrainAdds (suc n) grant l (behind m.out done d)
first_adds n done grant l m d nothing a q =
    let out : m.out ≡ records.Tti l.ttis ∷ a.more =
    a.out_is ∙ ap (λ (x : List Record). x ++ records.Tti l.ttis ∷ a.more) nothing in
    let counts : (test : Record → Bool) → test (records.Tti l.ttis) ≡ false
    → length (filter test (m.out ++ d.journal)) ≡ length (filter test a.more) + length (filter test d.journal) =
    λ test none. count_then test m.out d.journal
    ∙ ap (λ (x : List Record). length (filter test x) + length (filter test d.journal)) out ∙ rw none refl in
    let tells : (test : Record → Bool) → test (records.Tti l.ttis) ≡ false
    → list_any test (m.out ++ d.journal) ≡ list_any test a.more || list_any test d.journal =
    λ test none. any_then test m.out d.journal
    ∙ ap (λ (x : List Record). list_any test x || list_any test d.journal) out ∙ rw none refl in
    record {
      nothing = q.nothing;
      nb_delivered =
          grows_then (λ k. ups Nb k a.more) (λ k. ups Nb k d.journal) (λ k. ups Nb k (m.out ++ d.journal))
          l.up.delivered m.up.delivered d.link.up.delivered
          (λ k. counts (is_up Nb k) refl) a.told.nb_delivered q.nb_delivered;
      ue_delivered =
          grows_then (λ k. ups Ue k a.more) (λ k. ups Ue k d.journal) (λ k. ups Ue k (m.out ++ d.journal))
          l.down.delivered m.down.delivered d.link.down.delivered
          (λ k. counts (is_up Ue k) refl) a.told.ue_delivered q.ue_delivered;
      nb_submitted = q.nb_submitted ∙ a.told.nb_submitted;
      ue_submitted =
          grows_then (λ k. loopeds k a.more) (λ k. loopeds k d.journal) (λ k. loopeds k (m.out ++ d.journal))
          l.up.submitted m.up.submitted d.link.up.submitted
          (λ k. counts (is_looped k) refl) a.told.ue_submitted q.ue_submitted;
      nb_failed =
          marked_then (λ k. gives_up Nb k a.more) (λ k. gives_up Nb k d.journal)
          (λ k. gives_up Nb k (m.out ++ d.journal)) l.down.failed m.down.failed d.link.down.failed
          (λ k. tells (is_fail Nb k) refl) a.told.nb_failed q.nb_failed;
      ue_failed =
          marked_then (λ k. gives_up Ue k a.more) (λ k. gives_up Ue k d.journal)
          (λ k. gives_up Ue k (m.out ++ d.journal)) l.up.failed m.up.failed d.link.up.failed
          (λ k. tells (is_fail Ue k) refl) a.told.ue_failed q.ue_failed;
      ttis_is = omega (arith, q.ttis_is, a.ttis_is);
      numbers =
          filter-append is_of_run m.out d.journal
          ∙ ap (λ (x : List Record). filter is_of_run x ++ filter is_of_run d.journal) out
          ∙ ap (λ (x : List Record). records.Tti l.ttis ∷ (x ++ filter is_of_run d.journal)) a.told.none_of_run
          ∙ ap (λ (x : List Record). records.Tti l.ttis ∷ x) (q.numbers ∙ ap (λ (t : ℕ). numbered t n) a.ttis_is);
      flown = record {
        first = filter is_of_air a.more;
        second = filter is_of_air d.journal;
        told_are = filter-append is_of_air m.out d.journal
            ∙ ap (λ (x : List Record). filter is_of_air x ++ filter is_of_air d.journal) out;
        is_first = record {
          downward = a.downward;
          upward = a.upward;
          told_is = a.told.flown_is;
          down_is = a.down_is;
          up_is = a.up_is;
        };
        is_second = subst (λ (t : ℕ). InTurn (λ k. FliesIntact k grant) t n (filter is_of_air d.journal)) a.ttis_is
            q.flown;
      };
      kept = both_then false (entities l) (entities m) (entities d.link) m.out d.journal
          (subst (λ (x : List Record). KeepsBoth false (entities l) (entities m) x) (sym out)
          (both_turn false grant intact grant intact l m a)) q.kept;
    }

ttis_add : (n grant : ℕ) (l : Link) → l.out ≡ [] → DrainAdds n grant l (ttis n grant l)
ttis_add zero grant l nothing = none_adds grant l nothing
ttis_add (suc n) grant l nothing =
    let m = drain_tti grant l in
    first_adds n 0 grant l m (ttis n grant (shown m)) nothing (drain_adds grant l) (ttis_add n grant (shown m) refl)

-- by whether both ends are drained
round_by : (n grant : ℕ) (l : Link) → l.out ≡ [] → (b : Bool)
    → ((m : Link) → m.out ≡ [] → DrainAdds (rounds n grant m).done grant m (rounds n grant m))
    → DrainAdds (done_by b + (rounds n grant (left_by b grant l)).done) grant l
    (behind (round_told b grant l) (done_by b) (rounds n grant (left_by b grant l)))
round_by n grant l nothing true rest =
    let q = rest l nothing in
    let same : 0 + (rounds n grant l).done ≡ (rounds n grant l).done = omega arith in
    subst (λ (k : ℕ). DrainAdds k grant l (behind [] 0 (rounds n grant l))) (sym same) (record {
      nothing = q.nothing;
      nb_delivered = q.nb_delivered;
      ue_delivered = q.ue_delivered;
      nb_submitted = q.nb_submitted;
      ue_submitted = q.ue_submitted;
      nb_failed = q.nb_failed;
      ue_failed = q.ue_failed;
      ttis_is = q.ttis_is;
      numbers = q.numbers;
      flown = q.flown;
      kept = q.kept;
    })
round_by n grant l nothing false rest =
    let m = round grant l in
    let d = rounds n grant (shown m) in
    let more : 1 + d.done ≡ suc d.done = omega arith in
    subst (λ (k : ℕ). DrainAdds k grant l (behind m.out 1 d)) (sym more)
    (first_adds d.done 1 grant l m d nothing (round_adds grant l) (rest (shown m) refl))

rounds_add : (n grant : ℕ) (l : Link) → l.out ≡ [] → DrainAdds (rounds n grant l).done grant l (rounds n grant l)
rounds_add zero grant l nothing = none_adds grant l nothing
rounds_add (suc n) grant l nothing = round_by n grant l nothing (is_drained l) (λ m e. rounds_add n grant m e)

-- ---- the whole

pub in_turn_then : (Each : ℕ → List Record → Type 0) (t a b : ℕ) (x y : List Record) → InTurn Each t a x
    → InTurn Each (t + a) b y → InTurn Each t (a + b) (x ++ y)
in_turn_then Each t zero b x y p q =
    let none : zero + b ≡ b = omega arith in
    let same : t + zero ≡ t = omega arith in
    let nothing : x ++ y ≡ y = ap (λ (z : List Record). z ++ y) p in
    rw none (rw nothing (subst (λ (n : ℕ). InTurn Each n b y) same q))
in_turn_then Each t (suc a) b x y p q =
    let more : suc a + b ≡ suc (a + b) = omega arith in
    let same : t + suc a ≡ (t + 1) + a = omega arith in
    rw more (record {
      first = p.first;
      second = p.second ++ y;
      told_are = ap (λ (z : List Record). z ++ y) p.told_are ∙ append_assoc p.first p.second y;
      is_first = p.is_first;
      is_second = in_turn_then Each (t + 1) a b p.second y p.is_second (subst (λ (n : ℕ). InTurn Each n b y) same q);
    })

both_add : (a b done grant : ℕ) (l : Link) (d e : Drained) → DrainAdds a grant l d → DrainAdds b grant d.link e
    → DrainAdds (a + b) grant l (behind d.journal done e)
both_add a b done grant l d e p q = record {
  nothing = q.nothing;
  nb_delivered =
      grows_then (λ k. ups Nb k d.journal) (λ k. ups Nb k e.journal) (λ k. ups Nb k (d.journal ++ e.journal))
      l.up.delivered d.link.up.delivered e.link.up.delivered
      (λ k. count_then (is_up Nb k) d.journal e.journal) p.nb_delivered q.nb_delivered;
  ue_delivered =
      grows_then (λ k. ups Ue k d.journal) (λ k. ups Ue k e.journal) (λ k. ups Ue k (d.journal ++ e.journal))
      l.down.delivered d.link.down.delivered e.link.down.delivered
      (λ k. count_then (is_up Ue k) d.journal e.journal) p.ue_delivered q.ue_delivered;
  nb_submitted = q.nb_submitted ∙ p.nb_submitted;
  ue_submitted =
      grows_then (λ k. loopeds k d.journal) (λ k. loopeds k e.journal) (λ k. loopeds k (d.journal ++ e.journal))
      l.up.submitted d.link.up.submitted e.link.up.submitted
      (λ k. count_then (is_looped k) d.journal e.journal) p.ue_submitted q.ue_submitted;
  nb_failed =
      marked_then (λ k. gives_up Nb k d.journal) (λ k. gives_up Nb k e.journal)
      (λ k. gives_up Nb k (d.journal ++ e.journal)) l.down.failed d.link.down.failed e.link.down.failed
      (λ k. any_then (is_fail Nb k) d.journal e.journal) p.nb_failed q.nb_failed;
  ue_failed =
      marked_then (λ k. gives_up Ue k d.journal) (λ k. gives_up Ue k e.journal)
      (λ k. gives_up Ue k (d.journal ++ e.journal)) l.up.failed d.link.up.failed e.link.up.failed
      (λ k. any_then (is_fail Ue k) d.journal e.journal) p.ue_failed q.ue_failed;
  ttis_is = omega (arith, q.ttis_is, p.ttis_is);
  numbers =
      filter-append is_of_run d.journal e.journal ∙ ap (λ (x : List Record). x ++ filter is_of_run e.journal) p.numbers
      ∙ ap (λ (x : List Record). numbered l.ttis a ++ x) (q.numbers ∙ ap (λ (t : ℕ). numbered t b) p.ttis_is)
      ∙ sym (numbered_then l.ttis a b);
  flown = subst (λ (x : List Record). InTurn (λ n. FliesIntact n grant) l.ttis (a + b) x)
      (sym (filter-append is_of_air d.journal e.journal))
      (in_turn_then (λ n. FliesIntact n grant) l.ttis a b (filter is_of_air d.journal) (filter is_of_air e.journal)
      p.flown
      (subst (λ (t : ℕ). InTurn (λ n. FliesIntact n grant) t b (filter is_of_air e.journal)) p.ttis_is q.flown));
  kept = both_then false (entities l) (entities d.link) (entities e.link) d.journal e.journal p.kept q.kept;
}

-- a drain, and what it tells before its last record
abbrev pub telling : List Record → Drained → Drained
telling said d = record { link = d.link; done = d.done; journal = said }

pub record WholeDrain (grant : ℕ) (l : Link) (d : Drained) : Type 0 where
  pub rounds : ℕ
  pub said : List Record
  pub adds : DrainAdds (8 + rounds) grant l (telling said d)
  pub journal_is : d.journal ≡ said ++ records.Drained rounds ∷ []

pub drained_adds : (grant : ℕ) (l : Link) → l.out ≡ [] → WholeDrain grant l (drained grant l)
unfolding drained
drained_adds grant l nothing =
    let d = ttis 8 grant l in
    let e = rounds (budget l) grant d.link in
    let p = ttis_add 8 grant l nothing in
    let whole = behind d.journal 0 e in
    let same : 0 + e.done ≡ e.done = omega arith in
    record {
      rounds = e.done;
      said = whole.journal;
      adds = both_add 8 e.done 0 grant l d e p (rounds_add (budget l) grant d.link p.nothing);
      journal_is = ap (λ (n : ℕ). whole.journal ++ records.Drained n ∷ []) same;
    }

-- TTIs and rounds of a drain, one after the other.
use Rattle.std.proofs.Common.{◌≡◌, ◌<◌, ◌+◌, ◌-◌, ℕ, zero, suc, Bool, true, false, [], ◌∷◌, ◌++◌, refl, ap, arith}
use Rattle.air_link.specs.Link.{Link}
use Rattle.air_link.specs.Draining.{drain_tti, is_drained}
use Rattle.air_run.specs.Draining.{shown, at_once, behind, ttis, round, left_by, rounds, budget, drained}
use Rattle.air_record.specs.declared.record.Record.TheVariants as records

fewer : (most at : ℕ) → at < most → most - at ≡ suc (most - (at + 1))
fewer most at h = omega arith

pub ttis_next : (most at grant : ℕ) (l : Link) → at < most
    → ttis (most - at) grant l ≡ behind (drain_tti grant l).out 0
    (ttis (most - (at + 1)) grant (shown (drain_tti grant l)))
ttis_next most at grant l h = rw (fewer most at h) refl

pub rounds_next : (most at grant : ℕ) (l : Link) → at < most → is_drained l ≡ false
    → rounds (most - at) grant l ≡ behind (round grant l).out 1 (rounds (most - (at + 1)) grant (shown (round grant l)))
rounds_next most at grant l h e = rw (fewer most at h, e) refl

-- both ends that are drained stay so
pub rounds_stay : (n grant : ℕ) (l : Link) → is_drained l ≡ true → rounds n grant l ≡ at_once l
rounds_stay zero grant l e = refl
rounds_stay (suc n) grant l e = rw e (ap (behind [] 0) (rounds_stay n grant l e))

pub none_left : (most : ℕ) → most - most ≡ 0
none_left most = omega arith

-- ---- between its parts, the records of a drain are written

ttis-shown : (n grant : ℕ) (l : Link) → shown l ≡ l → shown (ttis n grant l).link ≡ (ttis n grant l).link
ttis-shown zero grant l h = h
ttis-shown (suc n) grant l h = ttis-shown n grant (shown (drain_tti grant l)) refl

left-shown : (b : Bool) (grant : ℕ) (l : Link) → shown l ≡ l → shown (left_by b grant l) ≡ left_by b grant l
left-shown true grant l h = h
left-shown false grant l h = refl

rounds-shown : (n grant : ℕ) (l : Link) → shown l ≡ l → shown (rounds n grant l).link ≡ (rounds n grant l).link
rounds-shown zero grant l h = h
rounds-shown (suc n) grant l h =
    rounds-shown n grant (left_by (is_drained l) grant l) (left-shown (is_drained l) grant l h)

pub drained_shown : (grant : ℕ) (l : Link) → shown (drained grant l).link ≡ (drained grant l).link
unfolding drained
drained_shown grant l =
    rounds-shown (budget l) grant (ttis 8 grant l).link (ttis-shown 7 grant (shown (drain_tti grant l)) refl)

-- ---- the whole is told part by part

pub drained_is : (grant : ℕ) (l : Link)
    → (drained grant l).journal
    ≡ ((ttis 8 grant l).journal ++ (rounds (budget l) grant (ttis 8 grant l).link).journal)
    ++ records.Drained (rounds (budget l) grant (ttis 8 grant l).link).done ∷ []
unfolding drained
drained_is grant l =
    let t = ttis 8 grant l in
    let r = rounds (budget l) grant t.link in
    let count : 0 + r.done ≡ r.done = omega arith in
    ap (λ (n : ℕ). (t.journal ++ r.journal) ++ records.Drained n ∷ []) count

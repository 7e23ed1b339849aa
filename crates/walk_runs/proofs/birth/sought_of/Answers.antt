-- Who may make a cut that the latest doesn't make.
use Rattle.std.proofs.Common.{◌≡◌, ◌∙◌, ◌+◌, ◌-◌, ◌<◌, ◌≤◌, ◌⊎◌, inl, inr, ℕ, get_or, length, ap, sym, subst, arith}
use Rattle.std.specs.Prelude.{◌&&◌, ◌||◌, IsTrue, not}
use Rattle.std.proofs.lemmas.Bool.{cases_lt}
use Rattle.walk_keys.specs.Words.{has_bit}
use Rattle.def_model.specs.Cuts.{one_more}
use Rattle.def_model.specs.Events.{place}
use Rattle.def_model.specs.Messages.{IsMessage}
use Rattle.walk_runs.specs.Births.{IsMadeLater, next_of}
use Rattle.walk_runs.specs.Points.{point_cut}
use Rattle.walk_runs.proofs.Growing.{made_or_later, sought_bit, sought_from, sought_lesser, sought_other}
use Rattle.walk_runs.proofs.birth.sought_of.Goals as goal

pub returns-then-latest-eq0-clause-all : goal.returns-then-latest-eq0-clause-all
returns-then-latest-eq0-clause-all g c p lt wanted = inl (c.sought_by-all.ensures.all p lt wanted)

-- a bit of the result, by those of the words that it is made of
bit_is : (all lesser followers without both either p : ℕ)
    → ((j : ℕ) → has_bit without j ≡ (has_bit all j && not (has_bit lesser j)))
    → ((j : ℕ) → has_bit both j ≡ (has_bit followers j && has_bit lesser j))
    → ((j : ℕ) → has_bit either j ≡ (has_bit without j || has_bit both j))
    → has_bit either p ≡ sought_bit (has_bit all p) (has_bit lesser p) (has_bit followers p)
bit_is all lesser followers without both either p w b e = e p ∙ (λ i. w p i || b p i)

pub returns-clause-all : goal.returns-clause-all
returns-clause-all g c p lt wanted = at (cases_lt p c.args.latest)
  where
    bit : has_bit c.either.result p ≡ sought_bit (has_bit c.sought_by-all.result p) (has_bit c.lowest-lesser.result p)
        (has_bit c.receivers-followers.result p)
    bit = bit_is c.sought_by-all.result c.lowest-lesser.result c.receivers-followers.result c.without.result
        c.both.result c.either.result p c.without.ensures c.both.ensures c.either.ensures

    follows : IsMessage c.args.steps.now
        (place c.args.latest (get_or (point_cut (length c.args.steps.now - 2) c.args.point.now) c.args.latest 0))
        (next_of (point_cut (length c.args.steps.now - 2) c.args.point.now) p)
        → IsTrue (has_bit c.receivers-followers.result p)
    follows message =
        let cut = point_cut (length c.args.steps.now - 2) c.args.point.now in
        let number : c.count.result ≡ get_or cut c.args.latest 0 =
        c.count.ensures ∙ ap (λ (n : ℕ). get_or (point_cut n c.args.point.now) c.args.latest 0) c.prefix.ensures in
        (c.receivers-followers.ensures p).1 (
          lt,
          (
            get_or cut p 0 + 1,
            subst (λ (n : ℕ). IsMessage c.args.steps.now (place c.args.latest n) (next_of cut p)) (sym number) message,
          ),
        )

    lesser : p < c.args.latest → IsTrue (has_bit c.receivers-followers.result p)
        ⊎ IsMadeLater c.args.steps.now (one_more (point_cut (length c.args.steps.now - 2) c.args.point.now) p) p
        → IsTrue (has_bit c.either.result p)
        ⊎ IsMadeLater c.args.steps.now (one_more (point_cut (length c.args.steps.now - 2) c.args.point.now) p) p
    lesser less (inl set) =
        inl (bit ∙ sought_lesser (has_bit c.sought_by-all.result p) (has_bit c.lowest-lesser.result p)
        (has_bit c.receivers-followers.result p) (c.lowest-lesser.ensures.within p less) set)
    lesser less (inr later) = inr later

    at : (p < c.args.latest) ⊎ (c.args.latest ≤ p) → IsTrue (has_bit c.either.result p)
        ⊎ IsMadeLater c.args.steps.now (one_more (point_cut (length c.args.steps.now - 2) c.args.point.now) p) p
    at (inl less) =
        lesser less (made_or_later c.args.steps.now c.limits.ensures.walkable.one_send
        (point_cut (length c.args.steps.now - 2) c.args.point.now) c.args.by c.args.latest p c.requires.cut
        (omega arith) less (c.requires.latest (omega arith)) (has_bit c.receivers-followers.result p) follows wanted)
    at (inr ge) =
        inl (bit ∙ sought_other (has_bit c.sought_by-all.result p) (has_bit c.lowest-lesser.result p)
        (has_bit c.receivers-followers.result p) (c.lowest-lesser.ensures.beyond p ge)
        (c.sought_by-all.ensures.all p lt wanted))

pub returns-clause-within : goal.returns-clause-within
returns-clause-within g c p set = at (sought_from (has_bit c.sought_by-all.result p) (has_bit c.lowest-lesser.result p)
    (has_bit c.receivers-followers.result p) (sym bit ∙ set))
  where
    bit : has_bit c.either.result p ≡ sought_bit (has_bit c.sought_by-all.result p) (has_bit c.lowest-lesser.result p)
        (has_bit c.receivers-followers.result p)
    bit = bit_is c.sought_by-all.result c.lowest-lesser.result c.receivers-followers.result c.without.result
        c.both.result c.either.result p c.without.ensures c.both.ensures c.either.ensures

    at : IsTrue (has_bit c.sought_by-all.result p) ⊎ IsTrue (has_bit c.receivers-followers.result p)
        → p < length c.args.steps.now - 2
    at (inl other) = c.sought_by-all.ensures.within p other
    at (inr follower) = ((c.receivers-followers.ensures p).0 follower).0

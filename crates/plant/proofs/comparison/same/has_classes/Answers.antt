use Rattle.std.proofs.Common.{Bool, true≢false, IsTrue, Contains, ℕ, ◌≡◌, slice_index_or, refl, sym, subst, ◌∙◌, ap, arith, inl, inr}
use Rattle.std.proofs.lemmas.Bool.{cases_lt}
use Rattle.std.proofs.lemmas.List.{get_or_default}
use Rattle.plant.specs.declared.class_table.Class.{Class}
use Rattle.plant.proofs.comparison.same.has_classes.Goals as goal

pub returns-then-not-has_class : goal.returns-then-not-has_class
returns-then-not-has_class c = (
  λ t. absurd (true≢false (sym t)),
  λ all. subst (λ (b : Bool). IsTrue b) c.if-not-has_class.true
      (c.has_class.ensures.1 (subst (λ (class : Class). Contains c.args.new.now class) (sym c.class-item.is) (all c.loop-class.class-index c.class-item.result c.loop-class-test.true))),
)

pub loop-class-preserved : goal.loop-class-preserved
loop-class-preserved c = λ k d within.
    let i : ℕ = c.loop-class.class-index in
    elim (cases_lt k i) [
      | inl below ↦ c.loop-class.invariant k d below
      | inr above ↦
          let same : k ≡ i = omega (arith, within, above) in
          let here : slice_index_or c.args.old.now k d ≡ c.class-item.result =
          ap (λ (n : ℕ). slice_index_or c.args.old.now n d) same
          ∙ (get_or_default c.args.old.now i d c.class-item.result c.loop-class-test.true ∙ sym c.class-item.is) in
          subst (λ (class : Class). Contains c.args.new.now class) (sym here)
          (c.has_class.ensures.0 (subst (λ (b : Bool). IsTrue b) (sym c.if-not-has_class.false) refl))
    ]

use Rattle.std.proofs.Common.{Bool, IsTrue, All, Contains, List, refl, sym, subst}
use Rattle.plant.specs.declared.class_table.Class.{Class}
use Rattle.plant.proofs.comparison.same.keeps_values.Goals as goal

pub returns-then-have_same_channel : goal.returns-then-have_same_channel
returns-then-have_same_channel c =
    let same = c.have_same_channel.ensures.0 (subst (λ (b : Bool). IsTrue b) (sym c.if-have_same_channel.true) refl) in (
      λ t. record {
        channel = same.channel;
        units = same.units;
        short_max = same.short_max;
        timers = same.timers;
        classes =
            subst (λ (cs : List Class). All (λ class. Contains c.args.new.now.classes class) cs) c.as_slice.ensures
            (subst (λ (cs : List Class). All (λ class. Contains cs class) c.as_slice.result.now) c.as_slice-then-have_same_channel.ensures (c.has_classes.ensures.0 t));
      },
      λ keeps. c.has_classes.ensures.1
          (subst (λ (cs : List Class). All (λ class. Contains cs class) c.as_slice.result.now) (sym c.as_slice-then-have_same_channel.ensures)
          (subst (λ (cs : List Class). All (λ class. Contains c.args.new.now.classes class) cs) (sym c.as_slice.ensures) keeps.classes)),
    )

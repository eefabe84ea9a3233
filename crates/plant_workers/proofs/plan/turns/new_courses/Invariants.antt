use Rattle.plant_workers.specs.plan.Courses.{AreNewCourses}
use Rattle.plant_workers.proofs.plan.turns.new_courses.Given as goal

abbrev pub invariant-loop-op : goal.invariant-loop-op
invariant-loop-op l = AreNewCourses l.op l.courses.items

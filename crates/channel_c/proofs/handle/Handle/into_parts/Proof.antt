-- `into_parts` moves what an open handle owns.
use mathlib.Core.Path.{refl, sym, subst}
use mathlib.Core.List.{List, [], ◌∷◌, ◌++◌}
use Prim.Native.Nat.{ℕ}
use mathlib.Core.Bool.{true, false}
use seplogic.Ra.Ura.{Ura}
use mir.Val.{Val, vptr}
use base.Logic.{SProp, ent, sep, emp, id⊢}
use base.Fml.{ftrue, fsep}
use prog.Memory.{Memory}
use prog.Routine.{Routine}
use prog.Wp.{WpFn, Tables}
use types.Logic.{Logic, sem}
use contract.Monad.{Fun}
use contract.Running.{tables, tables_of}
use sound.WpLaws.{WpFn-mono}
use types.Kit.{Item, ‵, raw, ◌⊛◌, ◌$◌, ◌∵◌, !, at_ret, qed, by, move, drop, use0, use1, use2, join, split, fsplit, fjoin, suffices, done}
use types.Part.{whole, sub, agg}
use types.Run.{stop, fld, no_more, and_then, of_opd, lit, first, branches, skips, exec, returns, returns_within, enter}
use types.ByLocal.{alloc_all, pass_all, free_all, look_at, get, get_in, sets, env}
use denote.Exit.{yes}
use denote.RawPtr.{block_ptr, ptr_val}
use denote.Signature.{type_at}
use denote.Steps.{nothing}
use denote.Triple.Spec.{triple_of}
use denote.Triple.Table.{entered}
use denote.Triple.Walked.{says, Stays, stay_dropped, walk_of, ends_at, Goes-dropped, walk_Meets}
use Rattle.std_alloc.specs.Box.Ownership.{box_owns}
use Rattle.std_alloc.proofs.BoxSteps.Form.{D, B, box_typed}
use Rattle.std_alloc.proofs.BoxSteps.Form as Box
use Rattle.std_alloc.proofs.BoxSteps.Steps.{box_in}
use Rattle.std_alloc.proofs.RcSteps.{some_Good}
use Rattle.core.proofs.option.Made.{Some-of, none_of}
use Rattle.std.specs.Prelude.{None, Some}
use Rattle.std.proofs.Common.{lit<}
use denote.Param.{layout}
use types.Match.{live}
use mir.Val.{of_list}
use Rattle.std_heap.specs.contracts.Global as Heap
use Rattle.std_heap.specs.contracts.GlobalAllocator.TheImpl.{ghosts}
use Rattle.channel_c.specs.contracts.channel.OpenChannel as Open
use Rattle.channel_c.proofs.AsBox.{E, Parts_row, FromHandle as From}
use Rattle.channel_c.proofs.HandleSteps.{word, handle_out, open_typed, closed_typed, ptr_good}
use Rattle.channel_c.specs.contracts.handle.Handle as Handle
use Rattle.channel_c.specs.contracts.handle.Handle.into_parts as F
use Rattle.channel_c.specs.contracts.handle.Handle.into_parts.Key.{name as #self}
use Rattle.channel_c.proofs.handle.Handle.into_parts.Statement as stated
use Rattle.channel_c.proofs.handle.Handle.into_parts.Code as code

abbrev stayed : Stays (F.ended).signature.params (F.ended).kept
stayed = (stay_dropped From yes, tt)

module _ {M : Type 1} {𝓤 : Ura M} (𝓛 : Logic 𝓤) (at_mem : Memory → SProp 𝓤) (run : Routine → Fun 𝓤) (𝓣 : Tables 𝓤 𝓛.H) where
  open 𝓛 use {H}

  parts_of : (b o : ℕ) (hv : Val) (a : Heap.the_row.Denot) (x : Open.the_row.Denot)
      → ent 𝓤 (sep 𝓤 (sem 𝓛 (box_owns (ghosts.dealloc_token a) Open.the_row (block_ptr b o) x)) (sem 𝓛 (Heap.the_row.own_val a (hv ∷ []))))
      (sem 𝓛 (Parts_row.own_val (record { ptr = block_ptr b o; alloc = a; value = x }) (Box.word E hv b o ∷ [])))
  parts_of b o hv a x =
      let v : D E = record { ptr = block_ptr b o; alloc = a; value = x } in
      qed 𝓛 (‵ (box_owns (ghosts.dealloc_token a) Open.the_row (block_ptr b o) x) ∷ ‵ (Heap.the_row.own_val a (hv ∷ [])) ∷ []) ∵ fsplit ! $
      box_in E ! {hv = hv} v b o x refl refl $ use1 𝓛 (‵ (Parts_row.own_val (record { ptr = block_ptr b o; alloc = a; value = x }) (Box.word E hv b o ∷ []))) (id⊢ 𝓤 _) $ done !

  walk : (z : (walk_of 𝓛 F.ended stayed (F.clauses 𝓛 at_mem run)).Ghost)
      → ent 𝓤 ((walk_of 𝓛 F.ended stayed (F.clauses 𝓛 at_mem run)).pre z) (WpFn 𝓤 H 𝓣.C 𝓣.Λ code.function (z.0.4.0 ++ []) ((walk_of 𝓛 F.ended stayed (F.clauses 𝓛 at_mem run)).post z))
  walk z =
      let Post = (walk_of 𝓛 F.ended stayed (F.clauses 𝓛 at_mem run)).post z in
      let d = z.0.3.0 in let a = d.alloc in let To = type_at (F.signature).result tt in
      let Runs : List Val → SProp 𝓤 = λ us. WpFn 𝓤 H 𝓣.C 𝓣.Λ code.function (us ++ []) Post in
      qed 𝓛 ((‵ ftrue ⊛ ‵ (fsep ((Handle.the_row).own_val d z.0.4.0) ftrue)) ∷ raw (emp 𝓤) ∷ []) ∵ split ! $ drop ! $ fsplit ! $
      handle_out ! d.ptr a d.is_open d.home z.0.4.0
      (λ b o hv x eh e ws fa.
      let v : D E = record { ptr = block_ptr b o; alloc = a; value = x } in let w = Box.word E hv b o in
      let parts : Parts_row.Denot = record { ptr = block_ptr b o; alloc = a; value = x } in
      use2 𝓛 (‵ (Parts_row.own_val parts (w ∷ []))) (parts_of b o hv a x) $ move ! (1 ∷ 2 ∷ []) $ drop ! $ drop ! $
      let Γ : List (Item 𝓤) = ‵ (Parts_row.own_val parts (w ∷ [])) ∷ [] in
      by ! (subst (λ (us : List Val). ent 𝓤 (types.Kit.⋆ 𝓛 Γ) (Runs us)) (sym ws)
      (qed 𝓛 Γ ∵ enter ! 𝓣.C 𝓣.Λ code.function (word (vptr b o) hv true ∷ []) _ $ alloc_all ! (λ ls. pass_all ! refl (open_typed hv b o fa, tt) $
      sets ! (of_opd ! (get_in ! (fld ! refl (stop !)) (sub ! 0 refl (whole !)))) refl (tt, tt) $ sets ! (of_opd ! (get_in ! (fld ! refl (stop !)) (sub ! 1 refl (whole !)))) refl fa $
      sets ! (of_opd ! (get_in ! (fld ! refl (stop !)) (sub ! 2 refl (whole !)))) refl (tt, tt) $ sets ! (of_opd ! (get ! refl)) refl (tt, tt) $
      first ! $ branches ! (get ! refl)
      (λ is. sets ! (agg ! (and_then ! (get ! refl) (and_then ! (get ! refl) (no_more !)))) refl (box_typed E hv b o fa) $
      sets ! (agg ! (and_then ! (lit ! tt) (and_then ! (get ! refl) (no_more !)))) refl (some_Good (layout Parts_row) w (box_typed E hv b o fa)) $
      returns_within ! Post refl (look_at ! 0 refl) $ free_all ! refl $
      suffices ! _ (ends_at 𝓛 F.ended stayed (F.clauses 𝓛 at_mem run) z (live 1 (of_list (w ∷ []))) (Some parts) (tt, tt) (tt, tt)) $ says ! (sym eh) $
      use1 𝓛 (‵ (To.own_val (Some parts) (live 1 (of_list (w ∷ [])) ∷ []))) (Some-of 𝓛 Parts_row parts w) $
      nothing ! $ nothing ! $ fjoin ! $ join ! $ nothing ! $ join ! $ done !)
      (λ no. absurd no)))))
      (λ hv en ws fa. drop ! $ drop ! $ drop ! $
      by ! (subst (λ (us : List Val). ent 𝓤 (types.Kit.⋆ 𝓛 []) (Runs us)) (sym ws)
      (qed 𝓛 [] ∵ enter ! 𝓣.C 𝓣.Λ code.function (word (ptr_val d.ptr) hv false ∷ []) _ $ alloc_all ! (λ ls. pass_all ! refl (closed_typed d.ptr hv fa, tt) $
      sets ! (of_opd ! (get_in ! (fld ! refl (stop !)) (sub ! 0 refl (whole !)))) refl (ptr_good d.ptr) $ sets ! (of_opd ! (get_in ! (fld ! refl (stop !)) (sub ! 1 refl (whole !)))) refl fa $
      sets ! (of_opd ! (get_in ! (fld ! refl (stop !)) (sub ! 2 refl (whole !)))) refl (tt, tt) $ sets ! (of_opd ! (get ! refl)) refl (tt, tt) $
      first ! $ branches ! (get ! refl)
      (λ no. absurd no)
      (λ is. skips ! $ exec ! 𝓣.C 𝓣.Λ (env code.Mir.locals ls) code.Mir.t-6 (at_ret _ Post) $
      sets ! (agg ! (and_then ! (lit ! tt) (no_more !))) refl (tt, (record { fits = lit< tt }, tt)) $
      returns ! (look_at ! 0 refl) $ free_all ! refl $
      suffices ! _ (ends_at 𝓛 F.ended stayed (F.clauses 𝓛 at_mem run) z (live 0 (of_list [])) None (tt, tt) (tt, tt)) $ says ! (sym en) $
      use0 𝓛 (‵ (To.own_val None (live 0 (of_list []) ∷ []))) (none_of 𝓛 Parts_row) $
      nothing ! $ nothing ! $ fjoin ! $ join ! $ nothing ! $ join ! $ done !)))))

pub into_parts_spec : {M : Type 1} → stated.statement M
unfolding tables_of
into_parts_spec 𝓤 𝓛 𝓜 𝓡 wired =
    let 𝓣 : Tables 𝓤 𝓛.H = tables_of 𝓤 𝓛.H 𝓜 (tables 𝓤 𝓛.H 𝓜 𝓡 𝓡.env) in
    entered 𝓤 𝓛.H (triple_of 𝓛 F.signature (F.spec 𝓛 𝓜.mem 𝓡.returns)) 𝓣.C 𝓣.Λ #self code.function (code.unfolded 𝓤 𝓛.H 𝓜 𝓡 wired)
    (walk_Meets 𝓛 F.ended stayed (Goes-dropped 𝓛 0 From yes (λ κs x f. refl), tt) (F.clauses 𝓛 𝓜.mem 𝓡.returns) (WpFn 𝓤 𝓛.H 𝓣.C 𝓣.Λ code.function) (WpFn-mono 𝓤 𝓛.H 𝓛.laws 𝓣 code.function)
    (walk 𝓛 𝓜.mem 𝓡.returns 𝓣))

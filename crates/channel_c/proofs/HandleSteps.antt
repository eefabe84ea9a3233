-- The machine values of a handle, and what an open and a closed one own. Assumes `Logic`.
use Rattle.std.proofs.Common.{◌≡◌, ℕ, List, [], ◌∷◌, ◌++◌, refl, subst, lit<}
use Rattle.std.specs.Prelude.{Option, None, Some}
use mathlib.Core.Bool.{Bool, true, false, ◌&&◌}
use lib.Dec.{T}
use seplogic.Ra.Ura.{Ura}
use mir.Syntax.{ty_ptr}
use mir.Val.{Val, vptr, vnull, vbool, vstruct, vcons, vnil, of_list, has_ty, WT}
use base.Logic.{never, fst∗}
use types.Logic.{Logic, sem}
use mir.Raw.{raw as bare}
use denote.Memory.{lone}
use types.Kit.{Item, Goal, Seq, Step, step, ‵, ◌$◌, move, drop, fsplit, fjoin, fpick, fpack, feq_i, feq_l}
use denote.RattleType.{Valss}
use denote.Builtin.{RawPtr, bool}
use denote.RawPtr.{Ptr, block_ptr, null_ptr, ptr_val, in_a_block}
use denote.Steps.{nothing}
use denote.Struct.Struct.{within}
use denote.Struct.Owning.{shape, to}
use Rattle.core.proofs.alloc.Calls.{handle_tells}
use Rattle.core.proofs.cell.Inside.{Good}
use denote.Param.{layout}
use Rattle.std_alloc.specs.Box.Ownership.{box_owns}
use Rattle.std_alloc.proofs.ResultValues.{and_tt}
use Rattle.std_heap.specs.contracts.Global as Heap
use Rattle.std_heap.specs.contracts.GlobalAllocator.TheImpl.{ghosts}
use Rattle.channel_c.specs.contracts.channel.OpenChannel as Open
use Rattle.channel_c.specs.contracts.handle.Handle as Handle
use Rattle.channel_c.proofs.AsBox.{E}

-- pointer, allocator and mark
abbrev pub word : Val → Val → Bool → Val
word p h t = vstruct (vcons p (vcons h (vcons (vbool t) vnil)))

abbrev pub open_handle : ℕ → ℕ → Heap.the_row.Denot → Open.the_row.Denot → Handle.the_row.Denot
open_handle b o a x = record { ptr = block_ptr b o; alloc = a; is_open = true; home = Some x }

abbrev pub closed_handle : Ptr → Heap.the_row.Denot → Handle.the_row.Denot
closed_handle p a = record { ptr = p; alloc = a; is_open = false; home = None }

module _ {M : Type 1} {𝓤 : Ura M} {𝓛 : Logic 𝓤} {K : Type 0} {Γ : List (Item 𝓤)} {G : Goal 𝓤 𝓛.H} where
  pub open_in : K → (b o : ℕ) (h : Val) (a : Heap.the_row.Denot) (x : Open.the_row.Denot)
      → Step K 𝓛 (‵ (Handle.the_row.own_val (open_handle b o a x) (word (vptr b o) h true ∷ [])) ∷ Γ) G
      (‵ (box_owns (ghosts.dealloc_token a) Open.the_row (block_ptr b o) x) ∷ ‵ (Heap.the_row.own_val a (h ∷ [])) ∷ Γ) G
  open_in t b o h a x = step (λ s. let v : Val = word (vptr b o) h true in
      feq_i t Bool true true refl $ fjoin t $ nothing t $ feq_i t (List Val) (vbool true ∷ []) (vbool true ∷ []) refl $ fjoin t $
      move t (2 ∷ 0 ∷ []) $ fjoin t $ feq_i t (List Val) (vptr b o ∷ []) (vptr b o ∷ []) refl $ fjoin t $ feq_i t (List Val) (v ∷ []) (v ∷ []) refl $ fjoin t $
      fpack t (Valss (RawPtr ∷ Heap.the_row ∷ bool ∷ [])) (within (shape Handle.the_type) (to Handle.the_type (open_handle b o a x)) (v ∷ [])) (vptr b o ∷ [], (h ∷ [], (vbool true ∷ [], tt))) $ fjoin t $ s)

  pub closed_in : K → (h : Val) (a : Heap.the_row.Denot)
      → Step K 𝓛 (‵ (Handle.the_row.own_val (closed_handle null_ptr a) (word vnull h false ∷ [])) ∷ Γ) G (‵ (Heap.the_row.own_val a (h ∷ [])) ∷ Γ) G
  closed_in t h a = step (λ s. let v : Val = word vnull h false in
      feq_i t Bool false false refl $ move t (1 ∷ 0 ∷ []) $ nothing t $ feq_i t (List Val) (vbool false ∷ []) (vbool false ∷ []) refl $ fjoin t $
      move t (1 ∷ 0 ∷ []) $ fjoin t $ feq_i t (List Val) (vnull ∷ []) (vnull ∷ []) refl $ fjoin t $ feq_i t (List Val) (v ∷ []) (v ∷ []) refl $ fjoin t $
      fpack t (Valss (RawPtr ∷ Heap.the_row ∷ bool ∷ [])) (within (shape Handle.the_type) (to Handle.the_type (closed_handle null_ptr a)) (v ∷ [])) (vnull ∷ [], (h ∷ [], (vbool false ∷ [], tt))) $ fjoin t $ s)

  pub handle_out : K → (p : Ptr) (a : Heap.the_row.Denot) (u : Bool) (home : Option Open.the_row.Denot) (vs : List Val)
      → ((b o : ℕ) (h : Val) (x : Open.the_row.Denot) → home ≡ Some x → p ≡ block_ptr b o → vs ≡ word (vptr b o) h true ∷ [] → Good (layout Heap.the_row) h
      → Seq K 𝓛 (‵ (box_owns (ghosts.dealloc_token a) Open.the_row (block_ptr b o) x) ∷ ‵ (Heap.the_row.own_val a (h ∷ [])) ∷ Γ) G)
      → ((h : Val) → home ≡ None → vs ≡ word (ptr_val p) h false ∷ [] → Good (layout Heap.the_row) h → Seq K 𝓛 (‵ (Heap.the_row.own_val a (h ∷ [])) ∷ Γ) G)
      → Seq K 𝓛 (‵ (Handle.the_row.own_val (record { ptr = p; alloc = a; is_open = u; home = home }) vs) ∷ Γ) G
  handle_out t p a u None vs ko kc =
      fsplit t $ fpick t (λ vss. fsplit t $ feq_l t (λ ev. fsplit t $ feq_l t (λ ep. fsplit t $ handle_tells E.al t a vss.1.0 (λ h ea fits. move t (1 ∷ []) $ fsplit t $ feq_l t (λ eb. drop t $ move t (1 ∷ []) $
      feq_l t (λ eu. kc h refl
      (subst (λ (s : Bool). vs ≡ word (ptr_val p) h s ∷ []) eu
      (subst (λ (bs : List Val). vs ≡ vstruct (of_list (ptr_val p ∷ (h ∷ (bs ++ [])))) ∷ []) eb
      (subst (λ (ws : List Val). vs ≡ vstruct (of_list (ptr_val p ∷ (ws ++ (vss.1.1.0 ++ [])))) ∷ []) ea
      (subst (λ (ps : List Val). vs ≡ vstruct (of_list (ps ++ (vss.1.0 ++ (vss.1.1.0 ++ [])))) ∷ []) ep ev)))) fits))))))
  handle_out t p a u (Some x) vs ko kc =
      fsplit t $ fpick t (λ vss. fsplit t $ feq_l t (λ ev. fsplit t $ feq_l t (λ ep. fsplit t $ handle_tells E.al t a vss.1.0 (λ h ea fits. move t (1 ∷ []) $ fsplit t $ feq_l t (λ eb. drop t $ move t (1 ∷ []) $
      fsplit t $ feq_l t (λ eu. in_a_block t p (λ q. box_owns (ghosts.dealloc_token a) Open.the_row q x) (fst∗ 𝓤 (never 𝓤) (sem 𝓛 (ghosts.dealloc_token a (bare (lone (Open.the_row).mir)) null_ptr))) (λ b o e. ko b o h x refl e
      (subst (λ (q : Ptr). vs ≡ word (ptr_val q) h true ∷ []) e
      (subst (λ (s : Bool). vs ≡ word (ptr_val p) h s ∷ []) eu
      (subst (λ (bs : List Val). vs ≡ vstruct (of_list (ptr_val p ∷ (h ∷ (bs ++ [])))) ∷ []) eb
      (subst (λ (ws : List Val). vs ≡ vstruct (of_list (ptr_val p ∷ (ws ++ (vss.1.1.0 ++ [])))) ∷ []) ea
      (subst (λ (ps : List Val). vs ≡ vstruct (of_list (ps ++ (vss.1.0 ++ (vss.1.1.0 ++ [])))) ∷ []) ep ev))))) fits)))))))

pub open_typed : (h : Val) (b o : ℕ) → Good (layout Heap.the_row) h → T (has_ty (layout Heap.the_row) h && true) × WT (word (vptr b o) h true)
open_typed h b o fits = (and_tt (has_ty (layout Heap.the_row) h) fits.0, (tt, (fits.1, (tt, tt))))

pub null_typed : (h : Val) → Good (layout Heap.the_row) h → T (has_ty (layout Heap.the_row) h && true) × WT (word vnull h false)
null_typed h fits = (and_tt (has_ty (layout Heap.the_row) h) fits.0, (record { fits = lit< tt }, (fits.1, (tt, tt))))

pub ptr_good : (p : Ptr) → T (has_ty ty_ptr (ptr_val p)) × WT (ptr_val p)
ptr_good (block_ptr b o) = (tt, tt)
ptr_good null_ptr = (tt, record { fits = lit< tt })

pub closed_typed : (p : Ptr) (h : Val) → Good (layout Heap.the_row) h → T (has_ty ty_ptr (ptr_val p) && (has_ty (layout Heap.the_row) h && true)) × WT (word (ptr_val p) h false)
closed_typed (block_ptr b o) h fits = (and_tt (has_ty (layout Heap.the_row) h) fits.0, (tt, (fits.1, (tt, tt))))
closed_typed null_ptr h fits = (and_tt (has_ty (layout Heap.the_row) h) fits.0, (record { fits = lit< tt }, (fits.1, (tt, tt))))

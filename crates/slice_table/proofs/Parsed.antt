-- What an `Ok` of a reading tells of its parts.
use Rattle.std.proofs.Common.{◌≡◌, ◌+◌, Bool, true, false, List, [], ◌∷◌, ◌++◌, length, length-append, Option, Some, None, Ok, Err, refl, ap, subst, arith}
use Rattle.slice_table.proofs.Common.{Data, Items, no_items, item, ◌>>=◌, Key, PlantResult, each, items_len, required_value, expected_value, checked_value}

pub ok_same : {A : Type 0} (x y : A) → ◌≡◌ {A = PlantResult A} (Ok x) (Ok y) → x ≡ y
ok_same x y h = cc

-- one reading after another is Ok where both are
pub bind_ok : {A B : Type 0} (r : PlantResult A) (f : A → PlantResult B) (y : B) → (r >>= f) ≡ Ok y → (x : A) × (r ≡ Ok x) × (f x ≡ Ok y)
bind_ok (Ok x) f y h = (x, refl, h)
bind_ok (Err e) f y h = cc

pub required_ok : {A : Type 0} (key : Key) (o : Option A) (x : A) → required_value key o ≡ Ok x → o ≡ Some x
required_ok key None x h = cc
required_ok key (Some y) x h = cc

pub expected_ok : {A : Type 0} (key : Key) (o : Option A) (x : A) → expected_value key o ≡ Ok x → o ≡ Some x
expected_ok key None x h = cc
expected_ok key (Some y) x h = cc

pub checked_ok : {A : Type 0} (key : Key) (b : Bool) (x y : A) → checked_value key b x ≡ Ok y → (b ≡ true) × (x ≡ y)
checked_ok key true x y h = (refl, cc)
checked_ok key false x y h = cc

-- what each item keeps holds in the end
pub each_keeps : {A : Type 0} (P : List A → Type 0) (read : List A → Data → PlantResult A)
    → ((done : List A) (d : Data) (x : A) → P done → read done d ≡ Ok x → P (done ++ x ∷ []))
    → (done : List A) (ds : Items) (all : List A) → P done → each read done ds ≡ Ok all → P all
each_keeps P read keeps done no_items all held h = subst P (let e : done ≡ all = cc in e) held
each_keeps P read keeps done (item d ds) all held h =
    let found = bind_ok (read done d) (λ x. each read (done ++ x ∷ []) ds) all h in
    each_keeps P read keeps (done ++ found.0 ∷ []) ds all (keeps done d found.0 held found.1) found.2

pub each_len : {A : Type 0} (read : List A → Data → PlantResult A) (done : List A) (ds : Items) (all : List A)
    → each read done ds ≡ Ok all → length all ≡ length done + items_len ds
each_len read done no_items all h = let e : done ≡ all = cc in omega (arith, ap length e)
each_len read done (item d ds) all h =
    let found = bind_ok (read done d) (λ x. each read (done ++ x ∷ []) ds) all h in
    omega (arith, each_len read (done ++ found.0 ∷ []) ds all found.2, length-append done (found.0 ∷ []))

-- Conjunctions of tests: taken apart, put together, and taken column by column.
-- Assumes nothing.
use mathlib.Core.Bool.{Bool, true, false, ◌&&◌, and_assoc, and_comm, and-false}
use mathlib.Core.Path.{◌≡◌, refl, sym}

-- a test that another implies adds nothing to it
pub implied : (a b : Bool) → (b ≡ true → a ≡ true) → (a && b) ≡ b
implied true b h = refl
implied false false h = refl
implied false true h = h refl

-- two rows of tests, column by column
pub zip2 : (a x b y : Bool) → (a && b && (x && y)) ≡ (a && x && (b && y))
zip2 false x b y = refl
zip2 true true b y = refl
zip2 true false true y = refl
zip2 true false false y = refl

pub zip5 : (a x b y c z d w e v : Bool)
    → (a && b && c && d && e && (x && y && z && w && v)) ≡ (a && x && (b && y) && (c && z) && (d && w) && (e && v))
zip5 a x b y c z d w e v =
    rw (zip2 (a && b && c && d) (x && y && z && w) e v, zip2 (a && b && c) (x && y && z) d w, zip2 (a && b) (x && y) c z, zip2 a x b y)

pub zip6 : (a x b y c z d w e v f u : Bool)
    → (a && b && c && d && e && f && (x && y && z && w && v && u)) ≡ (a && x && (b && y) && (c && z) && (d && w) && (e && v) && (f && u))
zip6 a x b y c z d w e v f u = rw (zip2 (a && b && c && d && e) (x && y && z && w && v) f u, zip5 a x b y c z d w e v)

left_comm : (a b c : Bool) → (a && (b && c)) ≡ (b && (a && c))
left_comm true b c = refl
left_comm false b c = sym (and-false b)

-- the tests of one pass over the rows, those on the form first
pub sorted6 : (n h r i u p : Bool) → (n && h && r && i && u && p) ≡ (i && u && (n && r && h && p))
sorted6 n h r i u p = simp (and_assoc, left_comm, and_comm)

-- the tests behind the first taken together; a test that holds adds nothing
pub behind : (x a c p : Bool) → (x && a && c && p) ≡ (x && (a && c && p))
behind true a c p = refl
behind false a c p = refl

pub behind_true : (x a p : Bool) → (x && a && true && p) ≡ (x && (a && p))
behind_true true true p = refl
behind_true true false p = refl
behind_true false a p = refl

pub last_four : (x y n m e : Bool) → (x && y && n && m && e) ≡ (x && y && (true && n && m && e))
last_four true true n m e = refl
last_four true false n m e = refl
last_four false y n m e = refl

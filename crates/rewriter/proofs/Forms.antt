-- The tokens of an accepted message are written as their rows say. Assumes nothing.
use Prim.Native.Nat.{ℕ, ◌<◌}
use mathlib.Core.Path.{◌≡◌, refl, sym, ap, ◌∙◌}
use mathlib.Core.Bool.{Bool, true, false, ◌||◌, false≢true}
use mathlib.Core.List.{List, [], ◌∷◌, ◌++◌, append-nil, append_assoc}
use native.Mathlib.Omega.{arith}
use lib.Dec.{eqb, ltb}
use borrow.Author.Tests.{lt-ltb, ltb-true, eqb-true}
use Rattle.format.specs.Conditions.{when◌then◌else◌, among, all}
use Rattle.format.specs.Marks.{Opening, bracket, brace, opens, closes, integers, types, is_type, is_scalar, is_plain_leaf, is_leaf, letter_of, 'E', 'F', 'H', 'S', 'T', 'Z', '[', ']', '#', '$'}
use Rattle.format.specs.Tokens.{Kind, kind_number, scalar, text, high_precision, key, array, object, packed, table, leaf, schema_record, fixed_array, dimension, extension, Token, first_slowest, Forest, none, ◌⊕◌}
use Rattle.format.specs.Records.{at_offset, placed}
use Rattle.format.specs.Rows.{row_of}
use Rattle.format.specs.Grammars.{Grammar}
use Rattle.format.specs.Extensions.{id_bytes}
use Rattle.format.specs.HouseForm.{small_integer, shape, table_form, whole, payload_of, token, written, house}
use Rattle.format.specs.Dimensions.{Shape}
use Rattle.format.specs.Schemas as Schemas
use Rattle.format.specs.Containers as Containers
use Rattle.format.proofs.MarkFacts.{among_passes}
use Rattle.laws.proofs.Schemas.{group_kind, Members, no_more, key as key_member, leaf as leaf_member, group as group_member, Group, grouped, group_one}
use Rattle.laws.proofs.Order.{group_kind_lem}
use Rattle.laws.proofs.Counts.{Shaped, plain, vector}
use Rattle.storage.proofs.Offsets.{member_placed, width_placed, is_placed, members-placed}
use Rattle.meaning.proofs.Accepted.{Sort, Number, Accepted, stop, more, both, apart, a_scalar, a_text, a_number, an_extension, a_key, a_container, a_dimension, a_packed, a_leaf, a_text_leaf, a_kind, a_group, a_table as a_table_read}
use Rattle.pieces.specs.Shapes.{shape_start, shape_end}
use Rattle.writer.specs.Pieces.{is_single, is_list, payload_at, single, head, middle, tail}
use Rattle.forests.specs.Formed.{Single, Around, Tabular, Formed, no_token, a_single, a_nested, a_table}

-- ---- marks

-- a byte is its own letter
letter_is : (mark : ℕ) → mark < 256 → letter_of mark ≡ mark
unfolding letter_of when◌then◌else◌
letter_is mark h = rw (lt-ltb mark 256 h)

-- the marks are bytes
byte_among : (l : List ℕ) (mark : ℕ) → all (λ k. ltb k 256) l ≡ true → among l mark ≡ true → mark < 256
byte_among l mark a h = ltb-true mark 256 (among_passes (λ k. ltb k 256) l mark a h)

scalar_byte : (mark : ℕ) → is_scalar mark ≡ true → mark < 256
unfolding is_scalar types integers all
scalar_byte mark h = byte_among ('Z' ∷ 'T' ∷ 'F' ∷ types) mark refl h

type_byte : (mark : ℕ) → is_type mark ≡ true → mark < 256
unfolding is_type types integers all
type_byte mark h = byte_among types mark refl h

leaf_byte : (mark : ℕ) → is_leaf mark ≡ true → mark < 256
unfolding is_leaf is_plain_leaf types integers all among
leaf_byte mark h = go (among ('T' ∷ 'Z' ∷ types) mark) refl h
  where
    go : (b : Bool) → among ('T' ∷ 'Z' ∷ types) mark ≡ b → (b || eqb mark 'S') ≡ true → mark < 256
    go true e k = byte_among ('T' ∷ 'Z' ∷ types) mark refl e
    go false e k = let q = eqb-true mark 'S' k in omega arith

plain_leaf_lem : (mark : ℕ) → is_plain_leaf mark ≡ true → is_leaf mark ≡ true
unfolding is_leaf
plain_leaf_lem mark h = rw h

text_byte : 'S' < 256
text_byte = omega arith

number_byte : 'H' < 256
number_byte = omega arith

extension_byte : 'E' < 256
extension_byte = omega arith

-- ---- tokens with none below them

-- a dimension is written without its mark
dimension_form : (t : Token) → t.kind ≡ dimension → Single t
unfolding is_single among token single row_of when◌then◌else◌
dimension_form t e = record { alone = rw e; form = λ m link ancestry. rw e }

single_form : (t : Token) (k : Kind) → t.kind ≡ k → is_single (kind_number k) ≡ true → t.mark < 256 → Single t
unfolding is_single among token payload_of single payload_at row_of when◌then◌else◌
single_form t scalar e s b = record { alone = rw e s; form = λ m link ancestry. rw (e, letter_is t.mark b) }
single_form t text e s b = record { alone = rw e s; form = λ m link ancestry. rw (e, letter_is t.mark b) }
single_form t high_precision e s b = record { alone = rw e s; form = λ m link ancestry. rw (e, letter_is t.mark b) }
single_form t key e s b = record { alone = rw e s; form = λ m link ancestry. rw e }
single_form t leaf e s b = record { alone = rw e s; form = λ m link ancestry. rw (e, letter_is t.mark b) }
single_form t dimension e s b = dimension_form t e
single_form t extension e s b = absurd (false≢true s)
single_form t array e s b = absurd (false≢true s)
single_form t object e s b = absurd (false≢true s)
single_form t packed e s b = absurd (false≢true s)
single_form t table e s b = absurd (false≢true s)
single_form t schema_record e s b = absurd (false≢true s)
single_form t fixed_array e s b = absurd (false≢true s)

-- ---- around those below them

open_byte : (o : Opening) → letter_of (opens o) ≡ opens o
unfolding letter_of opens when◌then◌else◌
open_byte bracket = refl
open_byte brace = refl

list_form : (o : Opening) (t : Token) (below : Forest) → t.kind ≡ Containers.container_kind o → t.mark ≡ opens o → Around t below
unfolding Containers.container_kind is_single is_list among token head tail row_of house opens when◌then◌else◌
list_form bracket t below e q = record { not_alone = rw e; no_table = rw e; form = λ m link ancestry. rw (e, q, open_byte bracket) (sym (append-nil (opens bracket ∷ '#' ∷ small_integer t.count ++ house m below))) }
list_form brace t below e q = record { not_alone = rw e; no_table = rw e; form = λ m link ancestry. rw (e, q, open_byte brace) (sym (append-nil (opens brace ∷ '#' ∷ small_integer t.count ++ house m below))) }

group_form : (o : Opening) (t : Token) (below : Forest) → t.kind ≡ group_kind o → t.mark ≡ opens o → Around t below
unfolding is_single is_list among token head tail row_of house opens closes when◌then◌else◌
group_form bracket t below e q = record { not_alone = rw e; no_table = rw e; form = λ m link ancestry. rw (e, q, open_byte bracket) }
group_form brace t below e q = record { not_alone = rw e; no_table = rw e; form = λ m link ancestry. rw (e, q, open_byte brace) }

-- an extension has none below it, and is written around them all the same
extension_form : (t : Token) → t.kind ≡ extension → t.mark < 256 → Around t none
unfolding is_single is_list among token payload_of head tail payload_at row_of house written whole when◌then◌else◌
extension_form t e b = record { not_alone = rw e; no_table = rw e; form = λ m link ancestry. rw (e, letter_is t.mark b) (ap (λ l. t.mark ∷ l) (append_assoc (id_bytes m t.first) (small_integer t.extent) (payload_of m t))) }

-- a shape is what stands before its dimensions, these, and what stands after them
in_brackets : (b : Bool) (dims : List ℕ)
    → (when b then '[' ∷ dims ++ ']' ∷ [] else '[' ∷ '[' ∷ dims ++ ']' ∷ ']' ∷ []) ≡ (when b then '[' ∷ [] else '[' ∷ '[' ∷ []) ++ dims ++ (when b then ']' ∷ [] else ']' ∷ ']' ∷ [])
unfolding when◌then◌else◌
in_brackets true dims = refl
in_brackets false dims = refl

shape_parts : {highest order n : ℕ} {f : Forest} → Shaped highest order n f → (m : List ℕ) → shape order n (house m f) ≡ shape_start order n ++ house m f ++ shape_end order
unfolding shape shape_start shape_end house written whole when◌then◌else◌
shape_parts {n = n} plain m = sym (append-nil (small_integer n ++ []) ∙ append-nil (small_integer n))
shape_parts {order = order} {f = f} (vector e h v) m = rw e (in_brackets (eqb order first_slowest) (house m f))

regroup : (x a d e p : List ℕ) → x ++ (a ++ d ++ e) ++ p ≡ x ++ a ++ d ++ (e ++ p)
regroup x a d e p = simp append_assoc

packed_form : {highest : ℕ} {below : Forest} (t : Token) → t.kind ≡ packed → t.mark < 256 → Shaped highest t.order t.count below → Around t below
unfolding is_single is_list among token payload_of head tail payload_at row_of house opens when◌then◌else◌
packed_form {below = below} t e b s = record {
  not_alone = rw e;
  no_table = rw e;
  form = λ m link ancestry. rw (e, letter_is t.mark b)
      (ap (λ l. '[' ∷ '$' ∷ t.mark ∷ '#' ∷ l ++ payload_of m t) (shape_parts s m) ∙ regroup ('[' ∷ '$' ∷ t.mark ∷ '#' ∷ []) (shape_start t.order t.count) (house m below) (shape_end t.order) (payload_of m t));
}

table_form_lem : {highest : ℕ} {dims : Forest} (t s : Token) (fields : Forest) → t.kind ≡ table → t.mark < 256 → Shaped highest t.order t.count dims → Tabular t s fields dims
unfolding is_single is_list among token table_form payload_of head middle tail payload_at row_of house written whole when◌then◌else◌
table_form_lem {dims = dims} t s fields e b d = record {
  not_alone = rw e;
  is_table = rw e;
  form = λ m link ancestry.
      let first = token m s.kind s (written m fields) in
      rw (e, letter_is t.mark b, append-nil first)
      (ap (λ l. t.mark ∷ '$' ∷ first ++ '#' ∷ l ++ payload_of m t) (shape_parts d m) ∙ regroup (t.mark ∷ '$' ∷ first) ('#' ∷ shape_start t.order t.count) (house m dims) (shape_end t.order) (payload_of m t));
}

-- ---- all tokens

formed_append : {f g : Forest} → Formed f → Formed g → Formed (f ⊕ g)
unfolding ◌⊕◌
formed_append no_token q = q
formed_append (a_single s a) q = a_single s (formed_append a q)
formed_append (a_nested n b a) q = a_nested n b (formed_append a q)
formed_append (a_table n s d a) q = a_table n s d (formed_append a q)

-- the members of a schema
formed_members : {k due : Bool} {f : Forest} → Members k due f → Formed f
unfolding is_single among
formed_members no_more = no_token
formed_members (key_member {t = t} i r) = let q = eqb-true 'S' t.mark i.mark_is in a_single (single_form t key i.kind_is refl (omega arith)) (formed_members r)
formed_members (leaf_member {t = t} i r) = a_single (single_form t leaf i.kind_is refl (leaf_byte t.mark i.mark_is)) (formed_members r)
formed_members (group_member o {t = t} {below = below} i e u r) =
    a_nested (group_form o t below i.kind_is (sym (eqb-true (opens o) t.mark i.mark_is))) (formed_members u) (formed_members r)

container_formed : (o : Opening) (at start end : ℕ) {under : Forest} → Formed under → Formed (Containers.container o at start end under)
unfolding Containers.container
container_formed o at start end {under} u = a_nested (list_form o _ under refl refl) u no_token

opens_byte : (o : Opening) → opens o < 256
unfolding opens
opens_byte bracket = omega arith
opens_byte brace = omega arith

table_formed : {highest : ℕ} (o : Opening) (at start extent : ℕ) {s : Forest} (n : Shape) → Group brace s → Shaped highest n.order n.many n.dimensions → Formed n.dimensions
    → Formed (Containers.stored table (opens o) at start extent n (placed 0 s ⊕ n.dimensions))
unfolding Containers.stored placed at_offset ◌⊕◌
table_formed o at start extent n (grouped {t = t} {below = fields} i e u) c d =
    rw (member_placed 0 t fields none (rw i.kind_is (group_kind_lem brace)))
    (a_table (table_form_lem _ (at_offset 0 t) (placed 0 fields) refl (opens_byte o) c) (formed_members (group_one (grouped (is_placed 0 i) (e ∙ sym (width_placed 0 fields)) (members-placed 0 u)) false)) d no_token)

-- of every sort
pub accepted_formed : {m : List ℕ} {grammar : Grammar} {n : Number} {s : Sort} {f : Forest} → Accepted m grammar n s f → Formed f
unfolding is_single among Schemas.leaf Schemas.group Containers.stored
accepted_formed stop = no_token
accepted_formed (more w p q) = formed_append (accepted_formed p) (accepted_formed q)
accepted_formed (both p q) = formed_append (accepted_formed p) (accepted_formed q)
accepted_formed (apart p) = accepted_formed p
accepted_formed (a_scalar levels mark at start t c) = a_single (single_form _ scalar refl refl (scalar_byte mark t)) no_token
accepted_formed (a_text levels at start n h c) = a_single (single_form _ text refl refl text_byte) no_token
accepted_formed (a_number levels at start n h c) = a_single (single_form _ high_precision refl refl number_byte) no_token
accepted_formed (an_extension levels id at start n on i h z c) = a_nested (extension_form _ refl extension_byte) no_token no_token
accepted_formed (a_key at start n h c) = a_single (single_form _ key refl refl text_byte) no_token
accepted_formed (a_container levels o at start end p) = container_formed o at start end (accepted_formed p)
accepted_formed (a_dimension mark at start n h) = a_single (dimension_form _ refl) no_token
accepted_formed (a_packed levels mark at start row n t c p fill) = a_nested (packed_form _ refl (type_byte mark t) c.shaped) (accepted_formed p) no_token
accepted_formed (a_leaf levels mark at t) = a_single (single_form _ leaf refl refl (leaf_byte mark (plain_leaf_lem mark t))) no_token
accepted_formed (a_text_leaf levels at n h) = a_single (single_form _ leaf refl refl text_byte) no_token
accepted_formed (a_kind o p) = accepted_formed p
accepted_formed (a_group levels o at {f = f} {g = g} w p q) = a_nested (group_form o _ (f ⊕ g) refl refl) (formed_append (accepted_formed p) (accepted_formed q)) no_token
accepted_formed (a_table_read levels o at start row n p g w c q fill) = table_formed o at start _ n g c.shaped (accepted_formed q)

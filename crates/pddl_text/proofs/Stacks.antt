-- The code's open lists as a stack.
use Rattle.std.proofs.Common.{◌≡◌, ℕ, suc, ◌+◌, ◌≤◌, ◌<◌, ltb, true, List, [], ◌∷◌, ◌++◌, length, take, drop, get_or, refl, sym, ap, subst, ◌∙◌, arith}
use Rattle.std.specs.Prelude.{Vec, Some, map, reverse}
use Rattle.std.proofs.lemmas.Bool.Decides.{nat_tests}
use Rattle.std.proofs.lemmas.List.{append_assoc, map-append, take_more, take_all, drop_all, take-append-drop, take-append-le, drop-append-le, map_push, length-take-le, reverse-append, length-reverse}
use Rattle.pddl_token.specs.declared.token.TokenKind.TheVariants.{Open, Close}
use Rattle.pddl_token.specs.declared.token.Span.{Span}
use Rattle.pddl_scan.specs.declared.fault.TextFault.TheVariants.{Unclosed}
use Rattle.pddl_items.specs.declared.item.Item.{Item}
use Rattle.pddl_text.specs.declared.nesting.OpenList.{OpenList}
use Rattle.pddl_items.specs.declared.item.Item.TheVariants.{List as Group}
use Rattle.pddl_items.proofs.TreeLists.{item_view_list}
use Rattle.pddl_token.specs.declared.token.Token.{Token}
use Rattle.pddl_token.specs.Spelling.{PlacedWord, view}
use Rattle.pddl_token.specs.Trees.{Placed, placed_node, placed_of}
use Rattle.pddl_items.specs.Items.{item_view, items_view}
use Rattle.pddl_text.specs.Inner.Nesting.{Opened, Nest, with_item, next_nest, BeginWithin, inner_items, stack_of, nest_of, IsLeftOpen}

-- as many open lists
pub stack_length : {A : Type 0} (lists : List OpenList) (items : List (Item A)) → length (stack_of lists items) ≡ length lists
stack_length [] items = refl
stack_length (list ∷ outer) items = ap (λ (n : ℕ). suc n) (stack_length outer (take list.begins items))

-- a pushed list is the innermost
pushed_first : (lists : List OpenList) (list : OpenList) → reverse (lists ++ list ∷ []) ≡ list ∷ reverse lists
pushed_first lists list = reverse-append lists (list ∷ [])

-- more items stand behind the innermost opening
inner_more : {A : Type 0} (lists : List OpenList) (items more : List (Item A)) → BeginWithin lists (length items) → inner_items lists (items ++ more) ≡ inner_items lists items ++ items_view more
inner_more [] items more within = map-append item_view items more
inner_more (list ∷ outer) items more within = ap items_view (drop-append-le list.begins items more within.0) ∙ map-append item_view (drop list.begins items) more

-- and in no outer list
stack_more : {A : Type 0} (lists : List OpenList) (items more : List (Item A)) → BeginWithin lists (length items) → stack_of lists (items ++ more) ≡ stack_of lists items
stack_more [] items more within = refl
stack_more (list ∷ outer) items more within =
    ap (λ (t : List (Item _)). record { items = inner_items outer t; start = list.start } ∷ stack_of outer t) (take-append-le list.begins items more within.0)

-- one more item
pub item_added : {A : Type 0} (opened : List OpenList) (items after : List (Item A)) (item : Item A) → BeginWithin (reverse opened) (length items) → after ≡ items ++ item ∷ []
    → nest_of opened after ≡ with_item (nest_of opened items) (item_view item)
item_added opened items after item within after_is =
    let stack = stack_more (reverse opened) items (item ∷ []) within in
    let inner = inner_more (reverse opened) items (item ∷ []) within in
    ap (nest_of opened) after_is ∙ (λ i. record { opened = stack i; items = inner i })

-- lists that begin within some items begin within more
pub begin_more : (lists : List OpenList) (len more : ℕ) → BeginWithin lists len → len ≤ more → BeginWithin lists more
begin_more [] len more within le = tt
begin_more (list ∷ outer) len more within le = (omega (arith, within.0, le), within.1)

-- of a popped list, where it begins, and so the outer lists
pub begin_popped : (opened lists : List OpenList) (list : OpenList) (len : ℕ) → BeginWithin (reverse opened) len → opened ≡ lists ++ list ∷ [] → (list.begins ≤ len) × BeginWithin (reverse lists) list.begins
begin_popped opened lists list len within opened_are = subst (λ t. BeginWithin t len) (ap reverse opened_are ∙ pushed_first lists list) within

-- an opening's list is pushed
pub open_next : {A : Type 0} (opened lists : List OpenList) (items : List (Item A)) (list : OpenList) (w : PlacedWord) → w.kind ≡ Open → length opened < 128
    → lists ≡ opened ++ list ∷ [] → list.begins ≡ length items → list.start ≡ w.span.start → next_nest w (nest_of opened items) ≡ Some (nest_of lists items)
open_next opened lists items list w is_open room lists_are begins_is starts =
    let test : ltb (length (stack_of (reverse opened) items)) 128 ≡ true = grind (arith, nat_tests, room, stack_length (reverse opened) items, length-reverse opened) in
    let before : take list.begins items ≡ items = take_all list.begins items (omega (arith, begins_is)) in
    let none_behind : drop list.begins items ≡ [] = drop_all list.begins items (omega (arith, begins_is)) in
    let pushed : nest_of lists items ≡ record { opened = record { items = inner_items (reverse opened) items; start = w.span.start } ∷ stack_of (reverse opened) items; items = [] } =
    rw (lists_are, pushed_first opened list) (λ i. record {
      opened = record { items = inner_items (reverse opened) (before i); start = starts i } ∷ stack_of (reverse opened) (before i);
      items = items_view (none_behind i);
    }) in
    rw (is_open, test) (ap (λ (n : Nest). Some n) (sym pushed))

-- a closing's list is popped
pub close_next : {A : Type 0} (opened lists : List OpenList) (items before after : List (Item A)) (list : OpenList) (inner : Vec (Item A) A) (w : PlacedWord) → w.kind ≡ Close
    → BeginWithin (reverse opened) (length items) → opened ≡ lists ++ list ∷ [] → before ≡ take list.begins items → inner.items ≡ drop list.begins items
    → after ≡ before ++ Group inner (record { start = list.start; end = w.span.end }) ∷ [] → next_nest w (nest_of opened items) ≡ Some (nest_of lists after)
close_next {A = A} opened lists items before after list inner w is_close within opened_are before_is inner_is after_is =
    let span : Span = record { start = list.start; end = w.span.end } in
    let popped = begin_popped opened lists list (length items) within opened_are in
    let len_is : length before ≡ list.begins = ap (λ (t : List (Item A)). length t) before_is ∙ length-take-le list.begins items popped.0 in
    let opened_is : reverse opened ≡ list ∷ reverse lists = ap reverse opened_are ∙ pushed_first lists list in
    let added = item_added lists before after (Group inner span) (subst (BeginWithin (reverse lists)) (sym len_is) popped.1) after_is in
    let whole : Placed = placed_node span (placed_of (items_view (drop list.begins items))) in
    let whole_is : item_view (Group inner span) ≡ whole = item_view_list inner span ∙ ap (λ (t : List (Item A)). placed_node span (placed_of (items_view t))) inner_is in
    let after_nest : nest_of lists after ≡ with_item (nest_of lists (take list.begins items)) whole = added ∙ ap (with_item (nest_of lists before)) whole_is ∙ ap (λ (t : List (Item A)). with_item (nest_of lists t) whole) before_is in
    rw (is_close, opened_is) (ap (λ (n : Nest). Some n) (sym after_nest))

-- ---- tokens in turn

-- the tokens up to the next one
pub view_take : (tokens : List Token) (i : ℕ) (token : Token) → i < length tokens → map view (take (i + 1) tokens) ≡ map view (take i tokens) ++ view (get_or tokens i token) ∷ []
view_take tokens i token lt = ap (map view) (take_more tokens i token lt) ∙ map_push view (take i tokens) (get_or tokens i token)

-- the tokens before, at and behind a place
pub view_split : (tokens : List Token) (i : ℕ) (token : Token) → i < length tokens → map view tokens ≡ map view (take i tokens) ++ view (get_or tokens i token) ∷ map view (drop (i + 1) tokens)
view_split tokens i token lt =
    ap (map view) (sym (take-append-drop (i + 1) tokens)) ∙ map-append view (take (i + 1) tokens) (drop (i + 1) tokens)
    ∙ ap (λ (t : List PlacedWord). t ++ map view (drop (i + 1) tokens)) (view_take tokens i token lt)
    ∙ append_assoc (map view (take i tokens)) (view (get_or tokens i token) ∷ []) (map view (drop (i + 1) tokens))

-- all tokens
pub view_all : (tokens : List Token) (i : ℕ) → length tokens ≤ i → map view (take i tokens) ≡ map view tokens
view_all tokens i le = ap (map view) (take_all i tokens le)

-- ---- the end of the tokens

-- the last list of a stack
left_open : {A : Type 0} (lists : List OpenList) (list : OpenList) (items : List (Item A)) → (inner : List Opened) × (outermost : Opened) × (stack_of (lists ++ list ∷ []) items ≡ inner ++ outermost ∷ []) × (list.start ≡ outermost.start)
left_open [] list items = ([], record { items = items_view (take list.begins items); start = list.start }, refl, refl)
left_open (first ∷ lists) list items =
    let (inner, outermost, stack_is, starts) = left_open lists list (take first.begins items) in
    let here : Opened = record { items = inner_items (lists ++ list ∷ []) (take first.begins items); start = first.start } in
    (here ∷ inner, outermost, ap (λ (t : List Opened). here ∷ t) stack_is, starts)

-- the first open list is the outermost
pub first_opened : {A : Type 0} (opened : List OpenList) (items : List (Item A)) (list : OpenList) → 0 < length opened → list ≡ get_or opened 0 list → IsLeftOpen (Unclosed list.start) (nest_of opened items)
first_opened [] items list lt list_is = absurd (omega (arith, lt))
first_opened (first ∷ opened) items list lt list_is =
    let (inner, outermost, stack_is, starts) = left_open (reverse opened) first items in
    (inner, outermost, ap (λ t. stack_of t items) (reverse-append (first ∷ []) opened) ∙ stack_is, ap (λ (o : OpenList). Unclosed o.start) list_is ∙ ap Unclosed starts)

-- Trees whose texts are UTF-8, as those of documents are.
use Rattle.std.specs.Prelude.{◌≡◌, ℕ, List, Some, ⊤, IsUtf8}
use Rattle.serde_json.specs.Data.{Data, null, boolean, number, string, array, object, Items, no_items, item, Members, no_members, member}
use Rattle.siri_json.specs.Tree.{tree_of}

-- the strings of a tree are UTF-8, at any depth; the names of members are left out
abbrev mutual
  pub TextsAreUtf8 : Data → Type 0
  TextsAreUtf8 null = ⊤
  TextsAreUtf8 (boolean b) = ⊤
  TextsAreUtf8 (number n) = ⊤
  TextsAreUtf8 (string s) = IsUtf8 s
  TextsAreUtf8 (array ds) = ItemTextsAreUtf8 ds
  TextsAreUtf8 (object ms) = MemberTextsAreUtf8 ms

  pub ItemTextsAreUtf8 : Items → Type 0
  ItemTextsAreUtf8 no_items = ⊤
  ItemTextsAreUtf8 (item d ds) = TextsAreUtf8 d × ItemTextsAreUtf8 ds

  pub MemberTextsAreUtf8 : Members → Type 0
  MemberTextsAreUtf8 no_members = ⊤
  MemberTextsAreUtf8 (member k d ms) = TextsAreUtf8 d × MemberTextsAreUtf8 ms

-- the texts of the tree of a document are UTF-8
abbrev pub DocumentTextsAreUtf8 : Type 0
DocumentTextsAreUtf8 = (document : List ℕ) (d : Data) → tree_of document ≡ Some d → TextsAreUtf8 d

-- What the agent knows of a deposit by the deposits that it follows (RFC 8909, section 2).
use Rattle.std.specs.Prelude.{◌≡◌, ◌⊎◌, ◌+◌, ◌++◌, ◌<◌, ℕ, List, [], ◌∷◌, IsSome, IsSomeAnd, Option, Some, None, length, map, option_map, slice_get, take, unwrap_or}
use Rattle.std.specs.List.{AllZip}
use Rattle.deposit_name.specs.Name.{Name}
use Rattle.deposit_name.specs.declared.kinds.Kind.{Kind}
use Rattle.deposit_name.specs.declared.kinds.Kind.TheVariants.{Full, Diff, Incr}
use Rattle.envelope.specs.Envelope.{Env}
use Rattle.deposit_verify.specs.Bases.{base_at}
use Rattle.deposit_verify.specs.Checks.{AgreesWithName}
use Rattle.deposit_verify.specs.Deposit.{HasEnvelope, IsDeposit}
use Rattle.deposit_verify.specs.Known.{Known}
use Rattle.deposit_verify.specs.declared.base.Base.{Base}
use Rattle.deposit_pack.specs.Followed.{AreFollowed}
use Rattle.deposit_pack.specs.declared.chains.Chain.{Chain}
use Rattle.deposit_pack.specs.declared.chains.ChainFault.{ChainFault}
use Rattle.deposit_pack.specs.declared.chains.ChainFault.TheVariants.{Missing, Order, Deposit}
use Rattle.deposit_pack.specs.declared.chains.NamedDeposit.{NamedDeposit}

-- ---- the deposits before

abbrev pub names_of : List NamedDeposit → List Name
names_of deposits = map (λ (d : NamedDeposit). d.name) deposits

abbrev pub joined_of : List NamedDeposit → List (List ℕ)
joined_of deposits = map (λ (d : NamedDeposit). d.joined.now) deposits

-- an incremental deposit adds to the keys of the full one alone, any other to those of the whole chain
abbrev pub counted_from : Kind → List (List ℕ) → List (List ℕ)
counted_from Full deposits = deposits
counted_from Diff deposits = deposits
counted_from Incr deposits = take 1 deposits

-- the deposit is the one that its name tells, and has this id
abbrev pub HasId : NamedDeposit → List ℕ → Type 0
HasId d id = HasEnvelope d.joined.now (λ v rest. (v.id ≡ id) × AgreesWithName v d.name)

-- the ids of a chain, a full deposit and later ones that are not, and the keys after it
pub record IsChainOf (deposits : List NamedDeposit) (chain : Chain) : Type 0 where
  pub keys : base_at (joined_of deposits) ≡ Some chain.base
  pub ids : AllZip HasId deposits chain.ids.items

-- with the deposit behind them these are no chain: it is not the one that its name tells, or not one that a chain may end with
abbrev pub IsBrokenBy : List NamedDeposit → NamedDeposit → Type 0
IsBrokenBy deposits d = ((id : List ℕ) → ¬ HasId d id) ⊎ (base_at (joined_of (deposits ++ d ∷ [])) ≡ None)

-- its ids and its keys
abbrev pub chain_parts : Option Chain → Option (List (List ℕ) × Base)
chain_parts chain = option_map (λ (c : Chain). (c.ids.items, c.base)) chain

-- the same of a chain that a deposit of this name follows, and the keys that it adds to
pub record IsChainBefore (name : Name) (deposits : List NamedDeposit) (chain : Chain) : Type 0 where
  pub followed : AreFollowed name (names_of deposits)
  pub chained : IsSome (base_at (joined_of deposits))
  pub keys : base_at (counted_from name.kind (joined_of deposits)) ≡ Some chain.base
  pub ids : AllZip HasId deposits chain.ids.items

-- at this place stands no deposit that is the one that its name tells
abbrev pub IsMisnamed : List NamedDeposit → ℕ → Type 0
IsMisnamed deposits place = IsSomeAnd (slice_get deposits place) (λ d. (id : List ℕ) → ¬ HasId d id)

-- of the deposits, those up to this one are no chain, and those before it are, or none
pub record BreaksAt (deposits : List (List ℕ)) (place : ℕ) : Type 0 where
  pub inside : place < length deposits
  pub broken : base_at (take (place + 1) deposits) ≡ None
  pub before : 0 < place → ¬ (base_at (take place deposits) ≡ None)

-- why deposits are no chain that one of this name follows
abbrev pub IsChainFault : Name → List NamedDeposit → ChainFault → Type 0
IsChainFault name deposits Missing = deposits ≡ []
IsChainFault name deposits Order = ¬ AreFollowed name (names_of deposits)
IsChainFault name deposits (Deposit place) = IsMisnamed deposits place ⊎ BreaksAt (joined_of deposits) place

-- ---- what is known

-- the last of some ids, and the first
abbrev pub last_id : List (List ℕ) → Option (List ℕ)
last_id [] = None
last_id (id ∷ []) = Some id
last_id (id ∷ next ∷ ids) = last_id (next ∷ ids)

-- the id that a deposit of a kind names as the one before it
abbrev pub previous_id : Kind → List (List ℕ) → Option (List ℕ)
previous_id Full ids = None
previous_id Diff ids = last_id ids
previous_id Incr ids = slice_get ids 0

-- what is known of the deposit with this envelope, whose own id is the stated one, after the deposits of a chain
abbrev pub known_after : Name → Env → Chain → Known
known_after name v chain = record { name = name; id = v.id; latest = last_id chain.ids.items; full = slice_get chain.ids.items 0; passed = chain.ids.items; base = Some chain.base }

-- the same where nothing is known of others: it follows what it names, no id has passed, and no keys are known
abbrev pub known_alone : Name → Env → Known
known_alone name v = record { name = name; id = v.id; latest = v.prev_id; full = Some (unwrap_or v.prev_id v.id); passed = []; base = None }

abbrev pub known_by_chain : Name → Env → Option Chain → Known
known_by_chain name v None = known_alone name v
known_by_chain name v (Some chain) = known_after name v chain

-- it is what is known of the deposit, if it has an envelope
abbrev pub IsKnownOf : Name → Option Chain → List ℕ → Known → Type 0
IsKnownOf name chain joined known = (v : Env) (rest : List ℕ) → IsDeposit joined v rest → known ≡ known_by_chain name v chain

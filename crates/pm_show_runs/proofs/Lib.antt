pub mod CallTable
pub mod RefusalLemmas
